use Rattle.std.proofs.Common.{◌≡◌, ◌<◌, Result, Err, ap, refl, subst, arith}
use Rattle.std.specs.Result.{IsErrAnd}
use Rattle.std.specs.FinMap as map
use Rattle.eu_base.specs.declared.faults.Fault.{Fault}
use Rattle.eu_base.specs.declared.faults.Fault.TheVariants.{Full, OutOfMemory}
use Rattle.eu_store.proofs.MapLemmas.{ok_is_no_err}
use Rattle.eu_store.proofs.TableLemmas.{by_key, len_in}
use Rattle.eu_store.proofs.leases.Leases.reserve.Goals as goal

pub returns-then-len-ge-MOST_LEASES-clause-full : goal.returns-then-len-ge-MOST_LEASES-clause-full
returns-then-len-ge-MOST_LEASES-clause-full c =
    let long = len_in by_key c.self.inside.table.entries c.args.self.now.held (ap (λ s. s.held) c.self.view_is) c.len.ensures.unique in
    ((λ e. omega (arith, c.self.invariant)), (λ h. refl))

memory_is_not_full : (r : Result (Unit {0}) Fault) → IsErrAnd r (λ f. f ≡ OutOfMemory) → r ≡ Err Full → ⊥
memory_is_not_full r memory full = apart (subst (λ s. IsErrAnd s (λ f. f ≡ OutOfMemory)) full memory)
  where
    apart : ◌≡◌ {A = Fault} Full OutOfMemory → ⊥
    apart e = cc

pub returns-in_err-reserve-clause-full : goal.returns-in_err-reserve-clause-full
returns-in_err-reserve-clause-full c =
    let long = len_in by_key c.self.inside.table.entries c.args.self.now.held (ap (λ s. s.held) c.self.view_is) c.len.ensures.unique in
    let short : map.len c.args.self.now.held < 65536 = omega arith in
    ((λ e. absurd (memory_is_not_full _ c.from_residual.ensures.1 e)), (λ h. absurd (omega (arith, h))))

pub returns-in_err-reserve-2-clause-full : goal.returns-in_err-reserve-2-clause-full
returns-in_err-reserve-2-clause-full c =
    let long = len_in by_key c.self.inside.table.entries c.args.self.now.held (ap (λ s. s.held) c.self.view_is) c.len.ensures.unique in
    let short : map.len c.args.self.now.held < 65536 = omega arith in
    ((λ e. absurd (memory_is_not_full _ c.from_residual-in_err-reserve-2.ensures.1 e)), (λ h. absurd (omega (arith, h))))

pub returns-in_err-reserve-3-clause-full : goal.returns-in_err-reserve-3-clause-full
returns-in_err-reserve-3-clause-full c =
    let long = len_in by_key c.self.inside.table.entries c.args.self.now.held (ap (λ s. s.held) c.self.view_is) c.len.ensures.unique in
    let short : map.len c.args.self.now.held < 65536 = omega arith in
    ((λ e. absurd (memory_is_not_full _ c.from_residual-in_err-reserve-3.ensures.1 e)), (λ h. absurd (omega (arith, h))))

pub returns-clause-full : goal.returns-clause-full
returns-clause-full c =
    let long = len_in by_key c.self.inside.table.entries c.args.self.now.held (ap (λ s. s.held) c.self.view_is) c.len.ensures.unique in
    let short : map.len c.args.self.now.held < 65536 = omega arith in
    ((λ e. absurd (ok_is_no_err e)), (λ h. absurd (omega (arith, h))))

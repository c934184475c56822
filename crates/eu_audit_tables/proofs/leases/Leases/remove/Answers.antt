use Rattle.std.proofs.Common.{◌≡◌, ◌+◌, ◌<◌, sym, ap, subst, ◌∙◌, arith}
use Rattle.std.specs.FinMap as map
use Rattle.eu_base.proofs.KeyLemmas.{keys_total, keys_exact}
use Rattle.eu_audit_tables.specs.Counted.{counted, held_before, one_before, deadline_of}
use Rattle.eu_audit_tables.proofs.MapLemmas.{removed}
use Rattle.eu_audit_tables.proofs.CountLemmas.{held_before-next, held_before-remove}
use Rattle.eu_audit_tables.proofs.leases.Leases.remove.Goals as goal

pub returns-in_default : goal.returns-in_default
returns-in_default c =
    removed keys_total keys_exact c.self.inside.table.entries c.remove.new.self.entries c.args.key.now c.remove.ensures.updates.0
    ∙ ap (λ m. map.remove m c.args.key.now) c.self.view_is

pub take-requires : goal.take-requires
take-requires c =
    let es = c.self.inside.table.entries in
    let counts = c.self.inside.deadlines in
    let deadline = deadline_of c.in-Some.lease in
    let more : counted counts deadline < counted counts (deadline + 1) =
    omega (arith, c.self.invariant deadline, c.self.invariant (deadline + 1), held_before-next es c.args.key.now c.in-Some.lease (sym c.remove.ensures.value ∙ c.in-Some.is)) in
    subst (λ d. counted counts d < counted counts (d + 1)) (sym c.deadline_of.ensures) more

pub invariant_of-self-2 : goal.invariant_of-self-2
invariant_of-self-2 c = λ limit.
    let es = c.self.inside.table.entries in
    let left : held_before c.remove.new.self.entries limit + one_before (deadline_of c.in-Some.lease) limit ≡ held_before es limit =
    ap (λ fs. held_before fs limit + one_before (deadline_of c.in-Some.lease) limit) c.remove.ensures.entries
    ∙ held_before-remove es c.args.key.now c.in-Some.lease limit (sym c.remove.ensures.value ∙ c.in-Some.is) in
    omega (arith, left, c.self.invariant limit, c.take.ensures limit, ap (λ d. one_before d limit) c.deadline_of.ensures)

pub returns : goal.returns
returns c =
    removed keys_total keys_exact c.self.inside.table.entries c.remove.new.self.entries c.args.key.now c.remove.ensures.updates.0
    ∙ ap (λ m. map.remove m c.args.key.now) c.self.view_is

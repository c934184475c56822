use Rattle.std.proofs.Common.{length, Result, Ok, Err, OnOk, ap, arith}
use Rattle.eu_store.proofs.TableLemmas.{by_key, len_in}
use Rattle.eu_store.proofs.leases.Leases.reserve_all.Goals as goal

on_ok : {A E : Type 0} {P Q : Type 0} → (r : Result A E) → (P → Q) → OnOk r P → OnOk r Q
on_ok (Ok x) f p = f p
on_ok (Err e) f p = tt

pub returns-clause-ready : goal.returns-clause-ready
returns-clause-ready c =
    let long = len_in by_key c.self.inside.table.entries c.args.self.now.held (ap (λ s. s.held) c.self.view_is) c.len-more.ensures.unique in
    on_ok c.reserve-3.result
    (λ ready. omega (arith, long, ready, ap length c.reserve.ensures.entries, c.len-more.ensures.len, c.in_ok-reserve.ensures.ok, c.in_ok-reserve-2.ensures.ok))
    c.reserve-3.ensures.ready

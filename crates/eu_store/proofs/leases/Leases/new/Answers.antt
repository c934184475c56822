use Rattle.std.proofs.Common.{sym, ap, ◌∙◌, arith, length}
use Rattle.std.specs.FinMap as map
use Rattle.eu_store.specs.Stored.{counts_of, deadlines}
use Rattle.eu_store.proofs.CountLemmas.{counts_none}
use Rattle.eu_store.proofs.leases.Leases.new.Goals as goal

pub invariant_of-result : goal.invariant_of-result
invariant_of-result c =
    let none = c.with_hasher.ensures.empty in
    (omega (arith, ap length none), c.new.ensures ∙ sym (ap deadlines none), c.of.ensures ∙ counts_none ∙ sym (ap (λ es. counts_of (map.from_entries es)) none), tt)

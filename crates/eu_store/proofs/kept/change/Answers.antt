use Rattle.std.proofs.Common.{sym, subst}
use Rattle.indexmap.specs.IndexMap.{set_value_at}
use Rattle.eu_store.specs.Order.{AreOrdered, IsDirectory, IsInOrder}
use Rattle.eu_store.proofs.OrderLemmas.{order_kept}
use Rattle.eu_store.proofs.PartLemmas.{keys_set, ordered_alike, parts_set, set_alike}
use Rattle.eu_store.proofs.kept.change.Goals as goal

pub returns-then-is_kept-clause-ordered : goal.returns-then-is_kept-clause-ordered
returns-then-is_kept-clause-ordered c v same =
    let es = c.args.table.now.entries in
    ordered_alike es (set_value_at es c.args.place v) c.args.directory.now (keys_set es c.args.place v) (set_alike es c.args.place v (same c.if-is_kept.true)) c.requires.ordered

pub returns-in-Some-clause-ordered : goal.returns-in-Some-clause-ordered
returns-in-Some-clause-ordered c v same =
    let es = c.args.table.now.entries in
    let d = c.in-Some.directory in
    let was : IsDirectory es d = subst (λ o. AreOrdered es o) c.in-Some.is c.requires.ordered in
    let fs = set_value_at es c.args.place v in
    (subst (λ p. IsInOrder fs p.items) (sym c.forget.ensures.places) (order_kept es fs d.places.items was.0 (keys_set es c.args.place v)), parts_set es c.args.place v d.parts.items _ was.1 c.forget.ensures.parts)

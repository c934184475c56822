use Rattle.std.proofs.Common.{sym, subst}
use Rattle.eu_store.specs.Order.{AreOrdered, IsDirectory, IsInOrder}
use Rattle.eu_store.proofs.OrderLemmas.{order_inserted}
use Rattle.eu_store.proofs.PartLemmas.{parts_put}
use Rattle.eu_store.proofs.kept.put.Goals as goal

pub returns-in-Some-clause-ordered : goal.returns-in-Some-clause-ordered
returns-in-Some-clause-ordered c v fs made now =
    let es = c.args.table.now.entries in
    let d = c.in-Some.directory in
    let was : IsDirectory es d = subst (λ o. AreOrdered es o) c.in-Some.is c.requires.ordered in (
      subst (IsInOrder fs) (sym c.put.ensures.places) (order_inserted es fs d.places.items c.args.key.now v was.0 c.requires.new made now),
      parts_put es fs c.args.key.now v d.parts.items _ was.1 c.put.ensures.parts made,
    )

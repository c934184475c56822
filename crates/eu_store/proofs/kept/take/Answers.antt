use Rattle.std.proofs.Common.{◌<◌, ◌-◌, ◌/◌, length, sym, ap, subst, ◌∙◌, arith}
use Rattle.eu_store.specs.Order.{AreOrdered, IsDirectory, IsInOrder}
use Rattle.eu_store.proofs.OrderLemmas.{order_removed}
use Rattle.eu_store.proofs.PartLemmas.{parts_taken}
use Rattle.eu_store.proofs.kept.take.Goals as goal

pub returns-in-Some-clause-ordered : goal.returns-in-Some-clause-ordered
returns-in-Some-clause-ordered c k d l fs key there made now =
    let es = c.args.table.now.entries in
    let p = c.args.place in
    let dir = c.in-Some.directory in
    let was : IsDirectory es dir = subst (λ o. AreOrdered es o) c.in-Some.is c.requires.ordered in
    let some : 0 < length es = omega (arith, c.requires.within) in (
      subst (IsInOrder fs) (sym c.swap_remove.ensures.places)
          (order_removed es dir.places.items p c.standing-at.result c.standing-moved.result d was.0 c.requires.within c.standing-at.ensures.bound c.standing-at.ensures.value
          c.standing-moved.ensures.bound (c.standing-moved.ensures.value ∙ ap (λ n. n - 1) c.len-last.ensures.len) fs k l key there made now),
      parts_taken es fs p d dir.parts.items _ was.1 some (λ n part at. let left = c.swap_remove.ensures.parts n part at in (left.0, left.1, λ e. left.2 (ap (λ m. (m - 1) / 512) c.len-last.ensures.len ∙ e))) made,
    )

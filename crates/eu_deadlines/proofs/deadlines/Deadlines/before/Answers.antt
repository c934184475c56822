use Rattle.std.proofs.Common.{◌≡◌, ℕ, List, length, get_or, drop, sym, ap, subst, ◌∙◌, arith}
use Rattle.eu_deadlines.specs.Walk.{IsAllEarlier}
use Rattle.eu_deadlines.specs.Indexed.{AreBefore}
use Rattle.eu_deadlines.proofs.LinkLemmas.{kept}
use Rattle.eu_deadlines.proofs.BeforeLemmas.{are_before}
use Rattle.eu_deadlines.proofs.deadlines.Deadlines.before.Goals as goal

pub returns-clause-found : goal.returns-clause-found
returns-clause-found c =
    let v = c.self.invariant in
    let e = c.loop-place.invariant in
    let found = c.in_ok-found.found.items in
    let was = c.deref_mut-place-items.ensures.value in
    let all = subst (λ (a : List ℕ). IsAllEarlier a c.args.limit found) (c.new-heap.ensures ∙ c.deref.ensures.value) c.in_ok-found.ensures.found in
    let long : length c.loop-place.place-items ≡ length found = omega (arith, c.loop-place.auto.place-items, ap length was) in
    let out = are_before c.self.inside.deadlines.items c.self.inside.positions.items c.self.inside.places.items found c.loop-place.place-items c.args.limit v.linked v.long all long
    (λ j h. e.done j (omega (arith, h, ap length was)) ∙ ap (λ l. get_or c.self.inside.positions.items (get_or l j 0) 0) was) in
    let seen = ap (λ s. s.list) c.self.view_is in
    let fits : c.in_ok-found.found.len ≡ length c.loop-place.place-items = omega (arith, long) in
    subst (λ (l : List ℕ). AreBefore c.args.self.now.list c.args.limit l) (sym (kept c.loop-place.place-items (drop (length c.loop-place.place-items) found) c.in_ok-found.found.len fits))
    (subst (λ (d : List ℕ). AreBefore d c.args.limit c.loop-place.place-items) seen out)

use Rattle.std.proofs.Common.{drop, ◌++◌, ◌∷◌, [], length, ap, ◌∙◌, arith}
use Rattle.eu_deadlines.specs.Heap.{by_position}
use Rattle.eu_deadlines.proofs.LinkLemmas.{kept, pushed_seen}
use Rattle.eu_deadlines.proofs.deadlines.Deadlines.push.Goals as goal

pub returns-clause-list : goal.returns-clause-list
returns-clause-list c =
    let v = c.self.invariant in
    let deadlines = c.self.inside.deadlines.items in
    let places = c.self.inside.places.items in
    let made_ats = c.deref_mut.ensures.value ∙ c.push_reserved.ensures.items in
    let made_places = c.deref_mut-3.ensures.value ∙ c.push_reserved-3.ensures.items in
    (λ i. by_position (kept c.rise.new.deadlines (drop (length c.rise.new.deadlines) c.push_reserved.new.self.items) c.push_reserved.new.self.len (omega arith) i) (kept c.rise.new.places (drop (length c.rise.new.places) c.push_reserved-3.new.self.items) c.push_reserved-3.new.self.len (omega arith) i))
    ∙ c.rise.ensures.same
    ∙ (λ i. by_position (made_ats i) (made_places i))
    ∙ pushed_seen deadlines places c.args.deadline c.len-position.result (omega arith) (λ p hp. omega (arith, v.long, v.linked.long, (v.linked.back p (omega (arith, v.linked.long, hp))).0))
    ∙ ap (λ s. s.list ++ c.args.deadline ∷ []) c.self.view_is

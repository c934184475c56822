use Rattle.std.proofs.Common.{drop, ◌<◌, length, get_or, set, ap, ◌∙◌, arith}
use Rattle.std.proofs.Math.ListN.{length-set}
use Rattle.eu_deadlines.specs.Heap.{by_position}
use Rattle.eu_deadlines.proofs.LinkLemmas.{kept, set_seen, length_map}
use Rattle.eu_deadlines.proofs.WalkLemmas.{same_default}
use Rattle.eu_deadlines.proofs.deadlines.Deadlines.set.Goals as goal

pub returns-clause-list : goal.returns-clause-list
returns-clause-list c =
    let v = c.self.invariant in
    let deadlines = c.self.inside.deadlines.items in
    let places = c.self.inside.places.items in
    let here : c.args.position < length places = omega (arith, ap (λ s. length s.list) c.self.view_is, length_map (λ h. get_or deadlines h 0) places) in
    let at = c.index-place.ensures ∙ same_default places c.args.position c.index-place.result.now 0 here in
    (λ i. by_position (kept c.reorder.new.deadlines (drop (length c.reorder.new.deadlines) (set deadlines c.index-place.result.now c.args.deadline)) c.self.inside.deadlines.len (omega (arith, length-set deadlines c.index-place.result.now c.args.deadline)) i) (kept c.reorder.new.places (drop (length c.reorder.new.places) places) c.self.inside.places.len (omega arith) i))
    ∙ c.reorder.ensures.same
    ∙ (λ i. by_position (c.deref_mut.ensures.value i) (c.deref_mut-3.ensures.value i))
    ∙ set_seen deadlines c.self.inside.positions.items places c.args.position c.args.deadline c.index-place.result.now v.linked v.long here at
    ∙ ap (λ s. set s.list c.args.position c.args.deadline) c.self.view_is

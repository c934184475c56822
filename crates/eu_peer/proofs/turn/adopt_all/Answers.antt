use Rattle.std.proofs.Common.{◌++◌, ◌∷◌, [], List, arith, ap, sym, ◌∙◌, append_assoc}
use Rattle.std.proofs.lemmas.Grind.{common_steps}
use Rattle.eu_base.specs.declared.instances.Instance.{Instance}
use Rattle.eu_peer.proofs.TurnLemmas.{adopts_more, adopts_no_more}
use Rattle.eu_peer.proofs.turn.adopt_all.Goals as goal

pub loop-instance-preserved-then-is_ok : goal.loop-instance-preserved-then-is_ok
loop-instance-preserved-then-is_ok g c =
    let next = c.in-Some.ensures.steps.0 in
    record {
      few = grind (arith, common_steps);
      whole = c.loop-instance.invariant.whole ∙ ap (λ (instances : List Instance). c.loop-instance.yielded ++ instances) next ∙ sym (append_assoc c.loop-instance.yielded (c.in-Some.instance ∷ []) c.next.new.self.rest.items);
      made = adopts_more g.D.Desk.asked _ _ _ _ _ _ _ _ c.loop-instance.invariant.made c.ask.ensures (sym c.is_ok.ensures.value ∙ c.if-is_ok.true);
    }

pub loop-instance-preserved : goal.loop-instance-preserved
loop-instance-preserved g c =
    let next = c.in-Some.ensures.steps.0 in
    record {
      few = grind (arith, common_steps);
      whole = c.loop-instance.invariant.whole ∙ ap (λ (instances : List Instance). c.loop-instance.yielded ++ instances) next ∙ sym (append_assoc c.loop-instance.yielded (c.in-Some.instance ∷ []) c.next.new.self.rest.items);
      made = adopts_no_more g.D.Desk.asked _ _ _ _ _ _ _ _ c.loop-instance.invariant.made c.ask.ensures (sym c.is_ok.ensures.value ∙ c.if-is_ok.false);
    }

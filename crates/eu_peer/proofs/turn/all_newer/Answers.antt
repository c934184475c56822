use Rattle.std.proofs.Common.{◌≡◌, ◌++◌, [], List, inl, inr, arith, ap, sym, ◌∙◌, append-nil}
use Rattle.std.specs.Iterator.Adapters.{zip_first, zip_second}
use Rattle.std.specs.Slice.Iter.{iter_rest}
use Rattle.eu_base.specs.declared.instances.Instance.{Instance}
use Rattle.eu_peer.specs.Turns.{all_newer}
use Rattle.eu_peer.proofs.TurnLemmas.{newer_ended}
use Rattle.eu_peer.proofs.turn.all_newer.Goals as goal

pub returns : goal.returns
returns c =
    let ts = iter_rest (zip_first c.loop-task.task-iterator) in
    let left = (zip_second c.loop-task.task-iterator).rest in
    let ended : all_newer ts left.items ≡ [] =
    elim c.in-None.ensures.steps [ inl x ↦ newer_ended ts left.items (inl x.1.0) | inr y ↦ newer_ended ts left.items (inr (omega (arith, left.ok.0, y.1.0))) ] in
    sym (append-nil c.loop-task.instances.items) ∙ ap (λ (is : List Instance). c.loop-task.instances.items ++ is) (sym ended) ∙ c.loop-task.invariant

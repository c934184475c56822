use Rattle.std.proofs.Common.{◌≡◌, ◌+◌, ◌++◌, suc, take, ap, ◌∙◌, arith}
use Rattle.std.specs.Prelude.{option_to_list}
use Rattle.eu_outbox.proofs.TaskLemmas.{take-next}
use Rattle.eu_outbox.proofs.waiting.Line.tasks.Goals as goal

pub loop-place-preserved : goal.loop-place-preserved
loop-place-preserved c =
    let tasks = c.args.self.now.tasks in
    let place = c.loop-place.place in
    let next : suc place ≡ place + 1 = omega (arith) in
    c.in_ok-push_copy.ensures ∙ (λ i. c.loop-place.invariant i ++ option_to_list (c.at.ensures i)) ∙ take-next place tasks ∙ ap (λ n. take n tasks) next

use Rattle.std.proofs.Common.{◌≡◌, ◌∷◌, ◌++◌, [], true, false, take, Some, None, cond, ap, sym, ◌∙◌}
use Rattle.std.proofs.lemmas.Bool.{and_right}
use Rattle.eu_model.specs.Server.{waits}
use Rattle.eu_audit_queue.specs.PlainQueue.{are_apart}
use Rattle.eu_audit_queue.proofs.ApartLemmas.{apart_push, not_apart, one_more}
use Rattle.eu_audit_queue.proofs.waiting.Waiting.read.Goals as goal

pub returns-then-branch : goal.returns-then-branch
returns-then-branch c =
    let tasks = c.args.tasks.now in
    let task = c.task-item.result in
    let there : waits task (take c.loop-task.task-index tasks) ≡ true = ap (waits task) (sym c.loop-task.invariant.so_far) ∙ ap (waits task) (sym c.waiting.view_is) ∙ sym c.in_ok-has.ensures ∙ c.if-branch.true in
    sym (ap (λ b. cond b (Some tasks) None) (and_right _ _ (not_apart tasks c.loop-task.task-index task c.loop-task-test.true c.task-item.is there)))

pub loop-task-preserved : goal.loop-task-preserved
loop-task-preserved c =
    let tasks = c.args.tasks.now in
    let task = c.task-item.result in
    let before = take c.loop-task.task-index tasks in
    let more : take _ tasks ≡ before ++ task ∷ [] = one_more tasks c.loop-task.task-index task c.loop-task-test.true c.task-item.is in
    let none : waits task before ≡ false = ap (waits task) (sym c.loop-task.invariant.so_far) ∙ ap (waits task) (sym c.waiting.view_is) ∙ sym c.in_ok-has.ensures ∙ c.if-branch.false in
    record {
      so_far = c.in_ok-push.ensures ∙ (λ i. c.loop-task.invariant.so_far i ++ c.in_ok-copy.ensures i ∷ []) ∙ sym more;
      apart = ap are_apart more ∙ apart_push before task c.loop-task.invariant.apart none;
    }

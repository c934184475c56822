use Rattle.std.proofs.Common.{◌≡◌, not, filter, take}
use Rattle.eu_model.specs.Server.{live, waits}
use Rattle.eu_audit_queue.proofs.waiting.Waiting.returning.Given as goal

-- those so far that come back
abbrev pub invariant-loop-task : goal.invariant-loop-task
invariant-loop-task l = l.tasks.items ≡ filter (λ task. not (waits task l.self)) (live l.moment (take l.task-index l.batch))

use Rattle.std.proofs.Common.{◌≡◌, take}
use Rattle.eu_outbox.proofs.outbox.copies.Given as goal

-- the tasks so far
abbrev pub invariant-loop-task : goal.invariant-loop-task
invariant-loop-task l = l.copies.items ≡ take l.task-index l.tasks

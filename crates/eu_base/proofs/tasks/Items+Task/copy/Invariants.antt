use Rattle.std.proofs.Common.{◌≡◌, take}
use Rattle.eu_base.proofs.tasks.Items+Task.copy.Given as goal

-- the tasks so far
abbrev pub invariant-loop-task : goal.invariant-loop-task
invariant-loop-task l = l.tasks.items ≡ take l.task-index l.task-items

use Rattle.std.proofs.Common.{◌≡◌, true, take}
use Rattle.std.specs.List.{list_all}
use Rattle.eu_audit_queue.specs.PlainQueue.{is_plain_task}
use Rattle.eu_audit_queue.proofs.plain.are_plain.Given as goal

-- those so far are plain
abbrev pub invariant-loop-task : goal.invariant-loop-task
invariant-loop-task l = list_all is_plain_task (take l.task-index l.tasks) ≡ true

use Rattle.std.proofs.Common.{◌≡◌, true, take}
use Rattle.eu_audit_queue.specs.PlainQueue.{are_apart}
use Rattle.eu_audit_queue.proofs.waiting.Waiting.read.Given as goal

-- copies of those so far, of which no two have one name
abbrev pub invariant-loop-task : goal.invariant-loop-task
invariant-loop-task l = record {
  so_far : l.waiting ≡ take l.task-index l.tasks;
  apart : are_apart (take l.task-index l.tasks) ≡ true;
}

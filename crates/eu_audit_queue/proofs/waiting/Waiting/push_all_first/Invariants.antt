use Rattle.std.proofs.Common.{◌≡◌, ◌≤◌, ◌+◌, ◌++◌, length}
use Rattle.std.specs.VecDeque.{deque_len}
use Rattle.eu_audit_queue.proofs.waiting.Waiting.push_all_first.Given as goal

-- what is left leads to the whole
abbrev pub invariant-loop-task : goal.invariant-loop-task
invariant-loop-task l = record {
  whole : l.tasks.items ++ l.self ≡ l.fn.tasks.items ++ l.fn.self;
  few : deque_len l.tasks + length l.self ≤ 10000;
}

abbrev pub decreases-loop-task : goal.decreases-loop-task
decreases-loop-task l = deque_len l.tasks

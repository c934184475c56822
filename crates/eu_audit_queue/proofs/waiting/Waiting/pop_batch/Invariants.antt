use Rattle.std.proofs.Common.{◌≡◌, ◌≤◌, ◌-◌, ◌++◌, vec_len}
use Rattle.eu_audit_queue.proofs.waiting.Waiting.pop_batch.Given as goal

-- what was taken out, and what waits on
abbrev pub invariant-tasks : goal.invariant-tasks
invariant-tasks l = record {
  whole : l.batch.items ++ l.self ≡ l.fn.self;
  few : vec_len l.batch ≤ 250;
}

abbrev pub decreases-tasks : goal.decreases-tasks
decreases-tasks l = 250 - vec_len l.batch

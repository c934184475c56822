use Rattle.std.proofs.Common.{◌≡◌, ◌≤◌, ◌+◌, ◌++◌, take, drop, vec_len, vec_capacity}
use Rattle.eu_outbox.proofs.waiting.Line.send.Given as goal

-- so many are moved
abbrev pub invariant-loop : goal.invariant-loop
invariant-loop l = record {
  tasks : l.self.tasks ≡ drop l.counter l.fn.self.tasks;
  batch : l.batch.items ≡ l.fn.batch.items ++ take l.counter l.fn.self.tasks;
  len : vec_len l.batch ≤ vec_len l.fn.batch + l.counter;
  room : vec_capacity l.batch ≡ vec_capacity l.fn.batch;
}

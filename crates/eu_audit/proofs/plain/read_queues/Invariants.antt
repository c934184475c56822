use Rattle.std.proofs.Common.{◌≡◌, ◌++◌, drop}
use Rattle.std.specs.List.{list_all}
use Rattle.eu_audit_queue.specs.PlainQueue.{is_plain_queue}
use Rattle.eu_audit.proofs.plain.read_queues.Given as goal

abbrev pub invariant-loop-queue : goal.invariant-loop-queue
invariant-loop-queue l = record {
  read : l.read.items ++ drop l.queue-index l.queues ≡ l.queues;
  plain : list_all is_plain_queue (drop l.queue-index l.queues) ≡ list_all is_plain_queue l.fn.queues;
}

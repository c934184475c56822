use Rattle.std.proofs.Common.{◌≡◌, ◌↔◌, drop}
use Rattle.std.specs.Slice.Iter.{iter_rest}
use Rattle.eu_audit.proofs.plain.same_queues.Given as goal

-- what is left of both is equal exactly where both are
abbrev pub invariant-loop-queue : goal.invariant-loop-queue
invariant-loop-queue l = record {
  can : goal.iterator-loop-queue.can_next l.left;
  finite : goal.iterator-loop-queue.is_finite l.left;
  same : (drop l.queue-index l.queues ≡ iter_rest l.left) ↔ (l.fn.queues ≡ l.fn.plain);
}

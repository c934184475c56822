use Rattle.std.proofs.Common.{◌≡◌, ◌↔◌, drop}
use Rattle.std.specs.Slice.Iter.{iter_rest}
use Rattle.eu_base.proofs.tasks.Items+Task.same.Given as goal

-- what is left of both is equal exactly where both are
abbrev pub invariant-loop-task : goal.invariant-loop-task
invariant-loop-task l = record {
  can : goal.iterator-loop-task.can_next l.left;
  finite : goal.iterator-loop-task.is_finite l.left;
  same : (drop l.task-index l.task-items ≡ iter_rest l.left) ↔ (l.self ≡ l.other);
}

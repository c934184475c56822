use Rattle.std.proofs.Common.{◌≡◌, ◌↔◌}
use Rattle.std.specs.Map.{values_of}
use Rattle.std.specs.Slice.Iter.{iter_rest}
use Rattle.eu_audit_queue.proofs.order.Order.same.Given as goal

-- what is left of both is equal exactly where both are
abbrev pub invariant-loop-name : goal.invariant-loop-name
invariant-loop-name l = record {
  can : (goal.iterator-loop-name).can_next l._name-iterator;
  finite : (goal.iterator-loop-name).is_finite l._name-iterator;
  same : (values_of l._name-iterator ≡ iter_rest l.left) ↔ (l.self ≡ l.tasks);
}

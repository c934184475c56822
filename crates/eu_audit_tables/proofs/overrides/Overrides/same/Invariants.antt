use Rattle.std.proofs.Common.{◌≡◌, ◌↔◌}
use Rattle.std.specs.Slice.Iter.{iter_rest}
use Rattle.eu_audit_tables.proofs.overrides.Overrides.same.Given as goal

-- what is left of both is equal exactly where both are
abbrev pub invariant-loop-id : goal.invariant-loop-id
invariant-loop-id l = record {
  can : (goal.iterator-loop-id).can_next l.id-iterator;
  finite : (goal.iterator-loop-id).is_finite l.id-iterator;
  same : (l.id-iterator ≡ iter_rest l.left) ↔ (l.initial.id-iterator ≡ l.overrides);
}

use Rattle.std.proofs.Common.{◌≡◌, ◌↔◌, map}
use Rattle.std.specs.Slice.Iter.{iter_rest}
use Rattle.eu_audit_tables.proofs.leases.Leases.same.Given as goal

-- what is left of both is equal exactly where both are
abbrev pub invariant-loop-key : goal.invariant-loop-key
invariant-loop-key l = record {
  can : (goal.iterator-loop-key).can_next l.key-iterator;
  finite : (goal.iterator-loop-key).is_finite l.key-iterator;
  same : (l.key-iterator ≡ map (λ x. (x.instance.key, x)) (iter_rest l.left)) ↔ (l.initial.key-iterator ≡ map (λ x. (x.instance.key, x)) l.leases);
}

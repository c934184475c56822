use Rattle.std.proofs.Common.{◌≡◌, ◌+◌}
use Rattle.std.specs.Map.{keys_of}
use Rattle.std.specs.Ordering.{nat_cmp}
use Rattle.std.specs.List.Sorted.{IsStrictlySortedBy}
use Rattle.eu_audit_tables.specs.Counted.{counted}
use Rattle.eu_audit_tables.proofs.deadlines.Deadlines.number_before.Given as goal

-- what is counted so far, and what is left
abbrev pub invariant-loop-deadline : goal.invariant-loop-deadline
invariant-loop-deadline l = record {
  can : (goal.iterator-loop-deadline).can_next l.deadline-iterator;
  finite : (goal.iterator-loop-deadline).is_finite l.deadline-iterator;
  ordered : IsStrictlySortedBy nat_cmp (keys_of l.deadline-iterator);
  same : l.total + counted l.deadline-iterator l.limit ≡ counted l.self l.limit;
}

use Rattle.std.proofs.Common.{◌≡◌, ◌++◌}
use Rattle.eu_base.proofs.rest.entries_of.Given as goal

abbrev pub invariant-loop-entry : goal.invariant-loop-entry
invariant-loop-entry l = record {
  can : (goal.iterator-loop-entry).can_next l.entry-iterator;
  finite : (goal.iterator-loop-entry).is_finite l.entry-iterator;
  left : l.entries.items ++ l.entry-iterator ≡ l.fn.members.entries;
}

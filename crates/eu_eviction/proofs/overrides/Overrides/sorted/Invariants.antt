use Rattle.std.proofs.Common.{◌≡◌, ◌++◌, map}
use Rattle.std.specs.Map.Iter.{deref_pair}
use Rattle.eu_eviction.proofs.overrides.Overrides.sorted.Given as goal

-- the rows so far, and what is left
abbrev pub invariant-loop-id : goal.invariant-loop-id
invariant-loop-id l = map deref_pair l.rows.items ++ l.id-iterator ≡ l.initial.id-iterator

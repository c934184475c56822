use Rattle.std.proofs.Common.{◌≡◌, map, take}
use Rattle.std.specs.Map.Iter.{deref_pair}
use Rattle.eu_eviction.proofs.overrides.Overrides.listed.Given as goal

-- copies of the rows so far
abbrev pub invariant-loop-row : goal.invariant-loop-row
invariant-loop-row l = l.rows.items ≡ map deref_pair (take l.row-index l.row-items)

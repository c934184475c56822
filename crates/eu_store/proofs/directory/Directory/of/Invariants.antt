use Rattle.std.proofs.Common.{◌≡◌, map, take, Some}
use Rattle.std.specs.Map.{keys_of}
use Rattle.eu_store.specs.Order.{at_places}
use Rattle.eu_store.proofs.directory.Directory.of.Given as goal

-- so far the places are those of the rows' keys
abbrev pub invariant-loop-row : goal.invariant-loop-row
invariant-loop-row l = at_places (keys_of l.table.entries) l.places.items ≡ map Some (map (λ r. r.0.now) (take l.row-index l.row-items))

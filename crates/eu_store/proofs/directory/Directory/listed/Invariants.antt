use Rattle.std.proofs.Common.{◌≡◌, map, take, Some}
use Rattle.std.specs.Map.{values_of}
use Rattle.eu_store.specs.Order.{at_places}
use Rattle.eu_store.proofs.directory.Directory.listed.Given as goal

-- so far what is listed stands at the places
abbrev pub invariant-loop-place : goal.invariant-loop-place
invariant-loop-place l = map Some l.leases.items ≡ at_places (values_of l.entries) (take l.place-index l.places)

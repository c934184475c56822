use Rattle.std.proofs.Common.{◌≡◌, ◌≤◌, length, map, take, drop, Some}
use Rattle.std.specs.Prelude.{vec_capacity}
use Rattle.indexmap.specs.IndexMap.{spare}
use Rattle.eu_model.specs.Machine.{without}
use Rattle.eu_store.specs.Order.{at_places, map_by}
use Rattle.eu_store.specs.Removed.{with_values}
use Rattle.eu_store.specs.Stored.{counts_of, deadlines}
use Rattle.eu_store.specs.Sweep.{places_in, ArePartsOf}
use Rattle.eu_store.proofs.sweep.take_all.Given as goal

-- what is left to take out leads to the whole, and what was taken out leads back
pub record IsSoFar (l : goal.Live-loop-key) : Type 0 where
  pub left : without (map_by l.table.entries) (drop l.key-index l.keys) ≡ without (map_by l.fn.table.entries) l.fn.keys
  pub back : with_values (map_by l.table.entries) (take l.key-index l.keys) l.held.items ≡ map_by l.fn.table.entries
  pub held_long : length l.held.items ≡ l.key-index
  pub held_room : length l.keys ≤ vec_capacity l.held
  pub deadlines : l.index.list ≡ deadlines l.table.entries
  pub counts : l.counts ≡ counts_of (map_by l.table.entries)
  pub parts : ArePartsOf l.table.entries l.directory
  pub places : places_in l.directory ≡ places_in l.fn.directory
  pub origins : at_places l.fn.table.entries l.origins.items ≡ map Some l.table.entries
  pub long : length l.origins.items ≡ length l.table.entries
  pub few : length l.table.entries ≤ length l.fn.table.entries
  pub spare : spare l.fn.table ≤ spare l.table
  pub room : l.fn.index.room ≤ l.index.room

abbrev pub invariant-loop-key : goal.invariant-loop-key
invariant-loop-key l = IsSoFar l

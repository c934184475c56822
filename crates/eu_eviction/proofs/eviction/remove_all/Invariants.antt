use Rattle.std.proofs.Common.{◌≡◌, ◌≤◌, length, take, drop, map}
use Rattle.std.specs.Prelude.{vec_capacity}
use Rattle.eu_model.specs.Machine.{without}
use Rattle.eu_store.specs.Removed.{with_values}
use Rattle.eu_eviction.proofs.eviction.remove_all.Given as goal

-- what is left to remove leads to the whole, and what was removed leads back
abbrev pub invariant-loop-key : goal.invariant-loop-key
invariant-loop-key l = record {
  overrides : without l.overrides.rows (map (λ k. k.id) (drop l.key-index l.keys)) ≡ without l.fn.overrides.rows (map (λ k. k.id) l.fn.keys);
  rows_back : with_values l.overrides.rows (map (λ k. k.id) (take l.key-index l.keys)) l.rows.items ≡ l.fn.overrides.rows;
  rows_long : length l.rows.items ≡ l.key-index;
  rows_room : length l.keys ≤ vec_capacity l.rows;
}

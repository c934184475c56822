use Rattle.std.proofs.Common.{◌≡◌, ◌≤◌, length}
use Rattle.eu_store.specs.Sweep.{AreCounted}
use Rattle.eu_store.proofs.places.counted.Given as goal

-- so far the first places
pub record IsSoFar (l : goal.Live-loop-place) : Type 0 where
  pub long : length l.places.items ≡ l.place
  pub counted : AreCounted l.places.items
  pub within : l.place ≤ l.number

abbrev pub invariant-loop-place : goal.invariant-loop-place
invariant-loop-place l = IsSoFar l

use Rattle.std.proofs.Common.{◌≡◌, ◌≤◌, length, take, drop}
use Rattle.eu_store.specs.Sweep.{place_now}
use Rattle.eu_store.proofs.SweepLemmas.{renumbered}
use Rattle.eu_store.proofs.places.renumber.Given as goal

-- so far the first places are written anew, and the rest are those of before
pub record IsSoFar (l : goal.Live-loop-at) : Type 0 where
  pub written : take l.kept l.places.items ≡ renumbered (place_now l.origins l.moved) (take l.at l.fn.places.items)
  pub rest : drop l.at l.places.items ≡ drop l.at l.fn.places.items
  pub low : l.kept ≤ l.at
  pub long : length l.places.items ≡ length l.fn.places.items

abbrev pub invariant-loop-at : goal.invariant-loop-at
invariant-loop-at l = IsSoFar l

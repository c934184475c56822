use Rattle.std.proofs.Common.{◌≡◌, ℕ, ◌<◌, true, length, get_or}
use Rattle.eu_store.specs.Sweep.{is_from}
use Rattle.eu_store.proofs.places.note.Given as goal

-- so far the first places are noted
pub record IsSoFar (l : goal.Live-loop-place) : Type 0 where
  pub noted : (i : ℕ) → i < l.place → is_from l.origins (get_or l.origins i 0) (get_or l.moved (get_or l.origins i 0) 0) ≡ true
  pub long : length l.moved ≡ length l.fn.moved

abbrev pub invariant-loop-place : goal.invariant-loop-place
invariant-loop-place l = IsSoFar l

-- Which loop gets the next connection
use Rattle.std.specs.Prelude.{◌≤◌, ◌<◌, ℕ, List, get_or, max}

-- of the first so many loops, which have so many sessions, that one has the fewest, and is the first of those that have as few; 0 where there is none
pub record IsFewest (sessions : List ℕ) (count number : ℕ) : Type 0 where
  pub within : number < max count 1
  pub fewest : (other : ℕ) → other < count → get_or sessions number 0 ≤ get_or sessions other 0
  pub first : (other : ℕ) → other < number → get_or sessions number 0 < get_or sessions other 0

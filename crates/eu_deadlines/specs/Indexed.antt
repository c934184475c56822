-- What an index of deadlines is to its callers.
use Rattle.std.specs.Prelude.{◌≡◌, ℕ, ◌-◌, ◌<◌, List, length, min, slice_index}
use Rattle.eu_deadlines.specs.Heap.{IsOrdered, AreLinked}

-- the deadline of each position, and how many more fit with no memory
pub record Indexed : Type 0 where
  pub list : List ℕ
  pub room : ℕ

abbrev pub room_of : ℕ → ℕ → ℕ → List ℕ → ℕ
room_of a b c deadlines = min a (min b c) - length deadlines

pub record IsIndex (deadlines positions places : List ℕ) : Type 0 where
  pub order : IsOrdered deadlines
  pub linked : AreLinked positions places
  pub long : length deadlines ≡ length positions

-- these positions, each once, are those whose deadlines are before the limit
pub record AreBefore (deadlines : List ℕ) (limit : ℕ) (found : List ℕ) : Type 0 where
  pub sound : (j : ℕ) → j < length found → (slice_index found j < length deadlines) × (slice_index deadlines (slice_index found j) < limit)
  pub once : (i j : ℕ) → i < j → j < length found → slice_index found i ≡ slice_index found j → ⊥
  pub complete : (p : ℕ) → p < length deadlines → slice_index deadlines p < limit → (j : ℕ) × (j < length found) × (slice_index found j ≡ p)

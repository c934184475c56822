-- The places of a heap whose deadlines are before a limit.
use Rattle.std.specs.Prelude.{◌≡◌, ℕ, ◌+◌, ◌<◌, ◌&&◌, Bool, List, length, slice_index, nat_lt}

-- the place is in the heap, and its deadline is before the limit
abbrev pub is_earlier : List ℕ → ℕ → ℕ → Bool
is_earlier deadlines limit at = nat_lt at (length deadlines) && nat_lt (slice_index deadlines at) limit

-- all places whose deadlines are before the limit, from the top on
pub record IsAllEarlier (deadlines : List ℕ) (limit : ℕ) (found : List ℕ) : Type 0 where
  pub sound : (j : ℕ) → j < length found → (slice_index found j < length deadlines) × (slice_index deadlines (slice_index found j) < limit)
  pub rising : (j : ℕ) → j + 1 < length found → slice_index found j < slice_index found (j + 1)
  pub complete : (h : ℕ) → h < length deadlines → slice_index deadlines h < limit → (j : ℕ) × (j < length found) × (slice_index found j ≡ h)

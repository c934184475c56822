-- A binary heap of deadlines, the earliest first, and where each position stands in it.
use Rattle.std.specs.Prelude.{◌≡◌, ◌≢◌, ℕ, ◌-◌, ◌/◌, ◌<◌, ◌≤◌, List, length, map, slice_index}

-- no entry is earlier than the one above it
pub record IsOrdered (deadlines : List ℕ) : Type 0 where
  pub up : (k : ℕ) → 0 < k → k < length deadlines → slice_index deadlines ((k - 1) / 2) ≤ slice_index deadlines k

-- ordered, but that the entry at h may be earlier than the one above it
pub record RisesFrom (deadlines : List ℕ) (h : ℕ) : Type 0 where
  pub others : (k : ℕ) → 0 < k → k < length deadlines → k ≢ h → slice_index deadlines ((k - 1) / 2) ≤ slice_index deadlines k
  pub around : (k : ℕ) → 0 < k → k < length deadlines → (k - 1) / 2 ≡ h → 0 < h → slice_index deadlines ((h - 1) / 2) ≤ slice_index deadlines k

-- ordered, but that the entry at h may be later than those below it
pub record SinksFrom (deadlines : List ℕ) (h : ℕ) : Type 0 where
  pub others : (k : ℕ) → 0 < k → k < length deadlines → (k - 1) / 2 ≢ h → slice_index deadlines ((k - 1) / 2) ≤ slice_index deadlines k
  pub around : (k : ℕ) → 0 < k → k < length deadlines → (k - 1) / 2 ≡ h → 0 < h → slice_index deadlines ((h - 1) / 2) ≤ slice_index deadlines k

-- the entry at each place is that of a position, and each position knows its place
pub record AreLinked (positions places : List ℕ) : Type 0 where
  pub long : length places ≡ length positions
  pub to : (k : ℕ) → k < length positions → (slice_index positions k < length positions) × (slice_index places (slice_index positions k) ≡ k)
  pub back : (p : ℕ) → p < length positions → (slice_index places p < length positions) × (slice_index positions (slice_index places p) ≡ p)

-- the deadline of each position
abbrev pub by_position : List ℕ → List ℕ → List ℕ
by_position deadlines places = map (λ h. slice_index deadlines h) places

-- What callers see of a hall.
use Rattle.std.specs.Prelude.{◌≡◌, ◌≢◌, ℕ, ◌≤◌, List, Option, None, is_some, count_by, sum_by}
use Rattle.eu_hall.specs.declared.place.Place.{Place}
use Rattle.eu_hall.specs.Places.{place_in, bytes_at}

-- what stands at each key from 0 on, how many places there are, and how many bytes those that stand here can hold
pub record Room (G : Type 0) : Type 0 where
  pub places : List (Option (Place G))
  pub most : ℕ
  pub most_bytes : ℕ

module _ {G : Type 0} where
  -- what stands at a key, or that its place is free
  abbrev pub place_at : Room G → ℕ → Option (Place G)
  place_at room key = place_in room.places key

  -- how many places are taken, by a guest that stands there or is away
  abbrev pub taken : Room G → ℕ
  taken room = count_by is_some room.places

  -- how many bytes those that stand here hold
  abbrev pub bytes_here : Room G → ℕ
  bytes_here room = sum_by bytes_at room.places

  -- this is at the key, and every other key keeps what it had; the limits stay
  pub record ChangesOnly (old new : Room G) (key : ℕ) (place : Option (Place G)) : Type 0 where
    pub changed : place_at new key ≡ place
    pub others : (other : ℕ) → other ≢ key → place_at new other ≡ place_at old other
    pub most : new.most ≡ old.most
    pub most_bytes : new.most_bytes ≡ old.most_bytes

  -- every place from this key on is free
  abbrev pub AllFree : List (Option (Place G)) → ℕ → Type 0
  AllFree places from = (key : ℕ) → from ≤ key → place_in places key ≡ None

  -- no more places are taken than there are, none from the bound on, each has its memory, and the sum of the bytes is known and within its limit
  pub record IsKept (places : List (Option (Place G))) (capacity bound most bytes most_bytes : ℕ) : Type 0 where
    pub free : AllFree places bound
    pub few : count_by is_some places ≤ most
    pub room : most ≤ capacity
    pub counted : bytes ≡ sum_by bytes_at places
    pub within : bytes ≤ most_bytes

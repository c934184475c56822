-- What stands at a place.
use Rattle.std.specs.Prelude.{◌≡◌, ℕ, ◌<◌, ◌≤◌, ◌||◌, ◌&&◌, Bool, true, false, List, Option, Some, None, nat_le, slice_index_or}
use Rattle.eu_hall.specs.declared.phase.Awaited.{Awaited}
use Rattle.eu_hall.specs.declared.place.Place.{Place}
use Rattle.eu_hall.specs.declared.place.Place.TheVariants.{Here, Away}
use Rattle.eu_hall.specs.declared.place.Standing.{Standing}
use Rattle.eu_hall.specs.Phases.{is_idle}

module _ {G : Type 0} where
  -- what stands at a key, or that its place is free
  abbrev pub place_in : List (Option (Place G)) → ℕ → Option (Place G)
  place_in places key = slice_index_or places key None

  -- the guest that stands there, and no one where it is away, or the place is free
  abbrev pub standing_at : Option (Place G) → Option (Standing G)
  standing_at (Some (Here standing)) = Some standing
  standing_at (Some Away) = None
  standing_at None = None

  -- the guest and what is awaited of its peer
  abbrev pub called_from : Option (Place G) → Option (G × Awaited)
  called_from (Some (Here standing)) = Some (standing.guest, standing.awaited)
  called_from (Some Away) = None
  called_from None = None

  -- how many bytes the guest that stands there holds
  abbrev pub bytes_at : Option (Place G) → ℕ
  bytes_at (Some (Here standing)) = standing.bytes
  bytes_at (Some Away) = 0
  bytes_at None = 0

  -- the guest that stands there is late now, or idle where the server stops
  abbrev pub is_due : ℕ → Bool → Option (Place G) → Bool
  is_due now stops (Some (Here standing)) = nat_le standing.awaited.until now || (stops && is_idle standing.awaited.phase)
  is_due now stops (Some Away) = false
  is_due now stops None = false

  -- no guest that stands at one of these keys is due
  abbrev pub NoneDue : List (Option (Place G)) → ℕ → Bool → ℕ → ℕ → Type 0
  NoneDue places now stops from to = (key : ℕ) → from ≤ key → key < to → is_due now stops (place_in places key) ≡ false

  -- the first key from this one on whose guest is due
  pub record IsFirstDue (places : List (Option (Place G))) (now : ℕ) (stops : Bool) (from key : ℕ) : Type 0 where
    pub reached : from ≤ key
    pub due : is_due now stops (place_in places key) ≡ true
    pub first : NoneDue places now stops from key

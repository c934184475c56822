-- Many leases that are taken out at once: the room for it, and where those stand that stay
use Rattle.std.specs.Prelude.{◌≡◌, ℕ, ◌<◌, ◌≤◌, ◌==◌, if◌then◌else◌, List, Option, Some, None, length, slice_get, slice_index_or, Bool, true, false, MatchOption, ⊤}
use Rattle.std.specs.Option.{option_map, option_map_or}
use Rattle.std.specs.declared.alloc.Global.{Global}
use Rattle.std.specs.declared.vec.Vec.{Vec}
use Rattle.eu_base.specs.declared.names.Key.{Key}
use Rattle.eu_model.specs.declared.views.Listed.{Listed}
use Rattle.eu_store.specs.declared.directory.Directory.{Directory}
use Rattle.eu_store.specs.Order.{AreParts, IsInOrder}

-- room for so many keys, out of so many leases
pub record Space : Type 0 where
  pub keys : ℕ
  pub leases : ℕ

-- the room suffices for so many keys, where so many leases are held; for no key any room does
abbrev pub Suffices : Space → ℕ → ℕ → Type 0
Suffices space keys leases = (keys ≤ space.keys) × (0 < keys → leases ≤ space.leases)

-- each of these numbers stands at the place of its own
abbrev pub AreCounted : List ℕ → Type 0
AreCounted ps = (i : ℕ) → i < length ps → slice_index_or ps i 0 ≡ i

-- each of these numbers is below a limit
abbrev pub AreBelow : ℕ → List ℕ → Type 0
AreBelow n ps = (i : ℕ) → i < length ps → slice_index_or ps i 0 < n

-- whether a lease stood at a place, where the places are told at which those leases stood that stay
abbrev pub is_from : List ℕ → ℕ → ℕ → Bool
is_from origins place i = option_map_or (λ q. q == place) (slice_get origins i) false

-- where the lease of a place stands now, if it stays: it is looked for where it was noted
abbrev pub place_now : List ℕ → List ℕ → ℕ → Option ℕ
place_now origins moved place = if is_from origins place (slice_index_or moved place 0) then Some (slice_index_or moved place 0) else None

-- each place of before has a note of where its lease stands now, where that one stays
abbrev pub AreNoted : List ℕ → List ℕ → Type 0
AreNoted origins moved = (i : ℕ) → i < length origins → is_from origins (slice_index_or origins i 0) (slice_index_or moved (slice_index_or origins i 0) 0) ≡ true

-- the parts that are kept, if any are, are those of the table
abbrev pub ArePartsOf : List (Key × Listed) → Option Directory → Type 0
ArePartsOf es kept = MatchOption kept ⊤ (λ d. AreParts es d.parts.items)

-- the places that are kept, if any are, are in key order
abbrev pub ArePlacesOf : List (Key × Listed) → Option Directory → Type 0
ArePlacesOf es kept = MatchOption kept ⊤ (λ d. IsInOrder es d.places.items)

-- the places that are kept
abbrev pub places_in : Option Directory → Option (Vec ℕ Global)
places_in kept = option_map (λ d. d.places) kept

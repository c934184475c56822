-- Leases in key order, as a table's places, and what is kept of them for who reads
use Rattle.std.specs.Prelude.{◌≡◌, ℕ, Bool, false, List, [], ◌∷◌, Option, Some, ◌≢◌, ◌*◌, ◌-◌, ◌≤◌, ◌/◌, ◌%◌, length, take, drop, map, slice_get, slice_index, MatchOption, ⊤}
use Rattle.std.specs.Arc.{arc_value}
use Rattle.std.specs.FinMap.{FinMap, from_entries, keys}
use Rattle.std.specs.Map.{keys_of}
use Rattle.std.specs.Option.{option_and_then, option_map_or}
use Rattle.std.specs.declared.alloc.Global.{Global}
use Rattle.std.specs.declared.sync.Arc.{Arc}
use Rattle.std.specs.declared.vec.Vec.{Vec}
use Rattle.std.specs.Ordering.{is_lt, is_le}
use Rattle.eu_base.specs.Limits.{most_leases}
use Rattle.eu_base.specs.declared.names.Key.{Key}
use Rattle.eu_base.specs.Values.{name_cmp, key_cmp}
use Rattle.eu_model.specs.declared.views.Listed.{Listed}
use Rattle.eu_model.specs.Machine.{duration}
use Rattle.eu_store.specs.declared.directory.Directory.{Directory}

abbrev pub Part : Type 0
Part = Arc (Vec Listed Global) Global

-- what stands at places of a list
abbrev pub at_places : {A : Type 0} → List A → List ℕ → List (Option A)
at_places xs places = map (λ place. slice_get xs place) places

-- the map that a table's entries make
abbrev pub map_by : List (Key × Listed) → FinMap key_cmp Listed
map_by es = from_entries es

-- the keys of a table's entries, in their order
abbrev pub keys_held : List (Key × Listed) → List Key
keys_held es = keys (from_entries {R = key_cmp} es)

-- places that go through the keys in their order
abbrev pub IsInOrder : List (Key × Listed) → List ℕ → Type 0
IsInOrder es places = at_places (keys_of es) places ≡ map Some (keys_held es)

-- whether a key is below another; and whether its application is before one, or not after it
abbrev pub is_below : Key → Key → Bool
is_below k x = is_lt (key_cmp x k)

abbrev pub is_before : List ℕ → Key → Bool
is_before app x = is_lt (name_cmp x.app app)

abbrev pub is_through : List ℕ → Key → Bool
is_through app x = is_le (name_cmp x.app app)

-- whether the key at a place passes a test
abbrev pub at_place : (Key → Bool) → List (Key × Listed) → ℕ → Bool
at_place test es place = option_map_or test (slice_get (keys_of es) place) false

-- a lease without its last update
abbrev pub undated : Listed → Listed
undated l = record l { times = record l.times { updated = 0 } }

-- those of a table's entries
abbrev pub undated_of : List (Key × Listed) → List Listed
undated_of es = map (λ e. undated e.1) es

-- how many neighbours are in a part, and those of the n-th part
abbrev pub part_room : ℕ
part_room = 512

abbrev pub window : {A : Type 0} → ℕ → List A → List A
window n xs = take part_room (drop (n * part_room) xs)

-- parts that were gathered are those of the table
abbrev pub AreParts : List (Key × Listed) → List (Option Part) → Type 0
AreParts es parts = (n : ℕ) (c : Part) → slice_get parts n ≡ Some (Some c) → (arc_value c).items ≡ window n (undated_of es)

-- and so are these, which are all of them
abbrev pub AreWhole : List (Key × Listed) → List Part → Type 0
AreWhole es parts = ((n : ℕ) (c : Part) → slice_get parts n ≡ Some c → (arc_value c).items ≡ window n (undated_of es)) × (length es ≤ length parts * part_room)

-- parts of before, but for that of a place
abbrev pub IsForgotten : ℕ → List (Option Part) → List (Option Part) → Type 0
IsForgotten place before after = (n : ℕ) (c : Part) → slice_get after n ≡ Some (Some c) → (slice_get before n ≡ Some (Some c)) × (place / part_room ≢ n)

-- a directory of the table: its places in key order, and parts of it
abbrev pub IsDirectory : List (Key × Listed) → Directory → Type 0
IsDirectory es d = IsInOrder es d.places.items × AreParts es d.parts.items

abbrev pub AreOrdered : List (Key × Listed) → Option Directory → Type 0
AreOrdered es kept = MatchOption kept ⊤ (λ d. IsDirectory es d)

-- how many leases more need no memory for it
abbrev pub room_in : Directory → ℕ
room_in d = d.places.cap - length d.places.items

abbrev pub room_of : Option Directory → ℕ
room_of kept = option_map_or (λ d. room_in d) kept most_leases

-- the leases of parts, without their last updates, and the one of a place
abbrev pub undated_in : List Part → List (List Listed)
undated_in parts = map (λ (p : Part). (arc_value p).items) parts

abbrev pub undated_at : List (List Listed) → ℕ → Option Listed
undated_at parts place = option_and_then (λ p. slice_get p (place % part_room)) (slice_get parts (place / part_room))

-- a lease that lasts until then: its last update is one duration before
abbrev pub lasting : ℕ → Listed → Listed
lasting deadline l = record l { times = record l.times { updated = deadline - duration l.instance } }

-- what places list, by the leases without their last updates and the deadlines of all
abbrev pub snapped : List (List Listed) → List ℕ → List ℕ → List Listed
snapped parts deadlines [] = []
snapped parts deadlines (p ∷ ps) = option_map_or (λ l. lasting (slice_index deadlines p) l ∷ snapped parts deadlines ps) (undated_at parts p) (snapped parts deadlines ps)

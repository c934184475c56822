-- Which requests take long
use Rattle.std.specs.Prelude.{ℕ, ◌==◌, ◌||◌, ◌&&◌, Bool, not, List, length, drop, nat_eq, nat_le, nat_lt, codes, if◌then◌else◌, Option, Some, None, false, slice_get}
use Rattle.std.specs.Option.{option_map, option_map_or, option_or}
use Rattle.std.specs.List.{before_first, position_or_len, starts_with}

-- the paths under which the registry is listed, whole or by application, and that of a peer's batch
abbrev pub listing : List ℕ
listing = codes "GET /eureka/apps"

abbrev pub listing_2 : List ℕ
listing_2 = codes "GET /eureka/v2/apps"

abbrev pub batch : List ℕ
batch = codes "POST /eureka/peerreplication"

abbrev pub batch_2 : List ℕ
batch_2 = codes "POST /eureka/v2/peerreplication"

abbrev pub is_slash : ℕ → Bool
is_slash byte = byte == 47

abbrev pub is_other : ℕ → Bool
is_other byte = not (byte == 47)

-- a blank or a `?` ends a path
abbrev pub ends_path : ℕ → Bool
ends_path byte = (byte == 32) || (byte == 63)

-- what stands from the first such byte on
abbrev pub from_first : (ℕ → Bool) → List ℕ → List ℕ
from_first test bytes = drop (position_or_len test bytes) bytes

-- what stands behind the first slash of a path, and behind those that follow that one
abbrev pub behind_slashes : List ℕ → List ℕ
behind_slashes path = from_first is_other (from_first is_slash path)

-- the rest of a path has one part at most: behind the slashes that follow that part, there is nothing
abbrev pub names_no_instance : List ℕ → Bool
names_no_instance rest = length (behind_slashes (behind_slashes (before_first ends_path rest))) == 0

-- the first part of the rest of a path
abbrev pub first_part : List ℕ → List ℕ
first_part rest = before_first is_slash (behind_slashes (before_first ends_path rest))

-- what stands behind a path, where the bytes begin by it and the path that they name has an end
abbrev pub behind : List ℕ → List ℕ → Option (List ℕ)
behind bytes path =
    let rest = drop (length path) bytes in
    if starts_with nat_eq bytes path && nat_lt (position_or_len ends_path rest) (length rest) then Some rest else None

-- what names the application that is listed, as it stands in the path; nothing where all are
abbrev pub listed : List ℕ → Option (List ℕ)
listed bytes = option_map first_part (option_or (behind bytes listing) (behind bytes listing_2))

-- begins by a path of listings, and names no instance
abbrev pub lists : List ℕ → List ℕ → Bool
lists bytes path = starts_with nat_eq bytes path && names_no_instance (drop (length path) bytes)

-- a request with a body, as long as a read or longer
abbrev pub has_long_body : List ℕ → Bool
has_long_body bytes = starts_with nat_eq bytes (codes "POST ") && nat_le 4096 (length bytes)

-- a front of such a path, and no more
abbrev pub is_front : List ℕ → Bool
is_front bytes =
    not (length bytes == 0) && (starts_with nat_eq listing bytes || starts_with nat_eq listing_2 bytes || starts_with nat_eq batch bytes || starts_with nat_eq batch_2 bytes)

abbrev pub ends_line : ℕ → Bool
ends_line byte = (byte == 13) || (byte == 10)

-- begins by an empty line, or has something else than a path behind the first blank
abbrev pub is_unusual : List ℕ → Bool
is_unusual bytes = option_map_or ends_line (slice_get bytes 0) false || option_map_or is_other (slice_get (from_first ends_path bytes) 1) false

-- a listing, unless it names an instance, or a batch, or one that has a long body; or one of which that isn't known yet
abbrev pub is_long : List ℕ → Bool
is_long bytes =
    lists bytes listing || lists bytes listing_2 || starts_with nat_eq bytes batch || starts_with nat_eq bytes batch_2
    || has_long_body bytes || is_front bytes || is_unusual bytes

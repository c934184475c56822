-- The path of a request's target, and its segments
use Rattle.std.specs.Prelude.{◌≡◌, ◌≢◌, ℕ, ◌+◌, ◌-◌, All, Bool, ◌&&◌, not, List, [], ◌∷◌, length, map, take, drop, Result, Ok, Err, nat_lt, nat_eq, ◌==◌, if◌then◌else◌, codes}
use Rattle.std.specs.Char.{to_ascii_lowercase}
use Rattle.std.specs.List.{ends_with, position_or_len, suffix_len}
use Rattle.std.specs.Str.{bytes_eq, is_utf8, str_to_ascii_uppercase}
use Rattle.percent_encoding.specs.Percent.{percent_decode}
use Rattle.eu_base.specs.declared.faults.Fault.{Fault}
use Rattle.eu_base.specs.declared.faults.Fault.TheVariants.{BadPath}
use Rattle.eu_base.specs.declared.names.Key.{Key}
use Rattle.eu_base.specs.Gives.{◌>>=◌}
use Rattle.eu_base.specs.Limits.{longest_name}

abbrev pub slash : ℕ
slash = 47

-- ---- from the target to the path

-- the prefix has no capitals
abbrev pub IsSmall : List ℕ → Type 0
IsSmall prefix = map to_ascii_lowercase prefix ≡ prefix

-- the target begins with the prefix, which has no capitals, in letters of either case
abbrev pub begins_with : List ℕ → List ℕ → Bool
begins_with prefix target = bytes_eq (map to_ascii_lowercase (take (length prefix) target)) prefix

-- from the first slash on, and nothing where there is none
abbrev pub from_slash : List ℕ → List ℕ
from_slash text = drop (position_or_len (λ b. b == slash) text) text

-- a target that names a scheme and a host is a path without them
unfoldable pub without_host : List ℕ → List ℕ
without_host target =
    if begins_with (codes "http://") target then from_slash (drop 7 target)
    else if begins_with (codes "https://") target then from_slash (drop 8 target)
    else target

-- without one slash at the end
unfoldable pub without_slash : List ℕ → List ℕ
without_slash path = if ends_with nat_eq path (slash ∷ []) then take (length path - 1) path else path

-- the path that a target names
abbrev pub path_of : List ℕ → List ℕ
path_of target = without_slash (without_host target)

-- ---- the segments of a path, from its end

-- how many bytes stand behind the last slash
abbrev pub last_len : List ℕ → ℕ
last_len path = suffix_len (λ b. not (b == slash)) path

-- what stands behind the last slash
unfoldable pub last_segment : List ℕ → List ℕ
last_segment path = drop (length path - last_len path) path

-- what stands before the last slash
unfoldable pub parent : List ℕ → List ℕ
parent path = take (length path - last_len path - 1) path

-- no byte is `%`, so that nothing is decoded
abbrev pub IsUncoded : List ℕ → Type 0
IsUncoded text = All (λ b. b ≢ 37) text

-- ---- names

-- the text that a segment stands for: UTF-8, once it is decoded
unfoldable pub text_at : List ℕ → Result (List ℕ) Fault
text_at segment = if is_utf8 (percent_decode segment) then Ok (percent_decode segment) else Err BadPath

-- a name has 1 to 255 bytes
abbrev pub is_name : List ℕ → Bool
is_name text = nat_lt 0 (length text) && nat_lt (length text) (longest_name + 1)

unfoldable pub as_name : List ℕ → Result (List ℕ) Fault
as_name text = if is_name text then Ok text else Err BadPath

-- an application, its ASCII letters in capitals
unfoldable pub app_of : List ℕ → Result (List ℕ) Fault
app_of text = do
  name ← as_name text
  Ok (str_to_ascii_uppercase name)

-- the application that a segment names
unfoldable pub app_at : List ℕ → Result (List ℕ) Fault
app_at segment = text_at segment >>= app_of

-- the id that a segment names
unfoldable pub id_at : List ℕ → Result (List ℕ) Fault
id_at segment = text_at segment >>= as_name

-- the lease of those names: an application, and the id of an instance
unfoldable pub key_of : List ℕ → List ℕ → Result Key Fault
key_of app id = do
  app ← app_of app
  id ← as_name id
  Ok (record { app = app; id = id })

-- the lease that the last two segments of a path name: an application, and the id of an instance
unfoldable pub key_at : List ℕ → Result Key Fault
key_at path = do
  app ← app_at (last_segment (parent path))
  id ← id_at (last_segment path)
  Ok (record { app = app; id = id })

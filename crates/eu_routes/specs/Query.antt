-- What a query says
use Rattle.std.specs.Prelude.{ℕ, ◌^◌, Bool, true, false, ◌&&◌, List, [], ◌∷◌, length, Option, Some, None, Result, Ok, Err, nat_lt, if◌then◌else◌, codes}
use Rattle.std.specs.Option.{ok_or}
use Rattle.std.specs.Str.{bytes_eq, all_ascii_digits, str_to_ascii_uppercase}
use Rattle.std.specs.Str.Lossy.{utf8_lossy}
use Rattle.std.specs.Str.Parse.{digits_value}
use Rattle.form_urlencoded.specs.Form.{decode, raw_pairs}
use Rattle.eu_base.specs.declared.faults.Fault.{Fault}
use Rattle.eu_base.specs.declared.faults.Fault.TheVariants.{BadValue}
use Rattle.eu_base.specs.declared.statuses.Status.{Status}
use Rattle.eu_base.specs.declared.settings.Config.{Config}
use Rattle.eu_base.specs.Values.{settings_from, status_of}
use Rattle.eu_base.specs.Gives.{◌>>=◌}
use Rattle.eu_routes.specs.declared.parameters.Parameter.{Parameter}
use Rattle.eu_routes.specs.declared.parameters.Parameter.TheVariants as parameters

-- ---- pairs of a form

-- the name of a value in a query
abbrev pub name_of : Parameter → List ℕ
name_of parameters.LastDirtyTimestamp = codes "lastDirtyTimestamp"
name_of parameters.Value = codes "value"
name_of parameters.OverriddenStatus = codes "overriddenstatus"
name_of parameters.Preservation = codes "preservation"
name_of parameters.Percent = codes "percent"
name_of parameters.Interval = codes "interval"
name_of parameters.EvictMs = codes "evictMs"

-- the text that a name or a value stands for
abbrev pub text_of : List ℕ → List ℕ
text_of bytes = utf8_lossy (decode bytes)

-- the value of the first pair of that name
abbrev pub value_among : List ℕ → List (List ℕ × List ℕ) → Option (List ℕ)
value_among name [] = None
value_among name (pair ∷ pairs) = if bytes_eq (text_of pair.0) name then Some (text_of pair.1) else value_among name pairs

-- the first value of that name in a query
unfoldable pub value_at : List ℕ → List ℕ → Option (List ℕ)
value_at name query = value_among name (raw_pairs query)

-- ---- stamps and statuses

-- one or more decimal digits, fewer than so many, of a number below a limit
abbrev pub is_number : ℕ → ℕ → List ℕ → Bool
is_number digits limit text = nat_lt 0 (length text) && nat_lt (length text) digits && all_ascii_digits text && nat_lt (digits_value 10 text) limit

-- 1 to 19 decimal digits, up to 2^63 - 1
abbrev pub is_stamp : List ℕ → Bool
is_stamp text = is_number 20 (2 ^ 63) text

-- the number of a stamp's text
unfoldable pub stamp_of : List ℕ → Option ℕ
stamp_of text = if is_stamp text then Some (digits_value 10 text) else None

-- one of the five statuses, in letters of either case
unfoldable pub status_in : List ℕ → Option Status
status_in text = status_of (str_to_ascii_uppercase text)

-- ---- settings

-- 1 to 10 decimal digits, up to 2^32 - 1
unfoldable pub u32_of : List ℕ → Option ℕ
u32_of text = if is_number 11 (2 ^ 32) text then Some (digits_value 10 text) else None

-- `on` or `off`, in these letters
unfoldable pub switch_of : List ℕ → Option Bool
switch_of text =
    if bytes_eq text (codes "on") then Some true
    else if bytes_eq text (codes "off") then Some false
    else None

-- ---- values, each of which may be absent

-- a stamp; an empty one is absent
abbrev pub stamp_given : Option (List ℕ) → Result (Option ℕ) Fault
stamp_given None = Ok None
stamp_given (Some []) = Ok None
stamp_given (Some (b ∷ text)) = do
  number ← ok_or (stamp_of (b ∷ text)) BadValue
  Ok (Some number)

abbrev pub status_given : Option (List ℕ) → Result (Option Status) Fault
status_given None = Ok None
status_given (Some text) = do
  status ← ok_or (status_in text) BadValue
  Ok (Some status)

-- the stamp of that name in a query
unfoldable pub stamp_at : List ℕ → List ℕ → Result (Option ℕ) Fault
stamp_at name query = stamp_given (value_at name query)

-- the status of that name in a query
unfoldable pub status_at : List ℕ → List ℕ → Result (Option Status) Fault
status_at name query = status_given (value_at name query)

-- ---- values that are needed

-- what the value says, if it is there and says something
abbrev pub needed : {X : Type 0} → (List ℕ → Option X) → Option (List ℕ) → Result X Fault
needed says None = Err BadValue
needed says (Some text) = ok_or (says text) BadValue

-- the number of that name in a query
unfoldable pub u32_at : List ℕ → List ℕ → Result ℕ Fault
u32_at name query = needed u32_of (value_at name query)

-- the switch of that name in a query
unfoldable pub switch_at : List ℕ → List ℕ → Result Bool Fault
switch_at name query = needed switch_of (value_at name query)

-- the settings of a query: `preservation`, `percent`, `interval` and `evictMs`, which are all needed, each within its limits
unfoldable pub settings_at : List ℕ → Result Config Fault
settings_at query = do
  preservation ← switch_at (codes "preservation") query
  percent ← u32_at (codes "percent") query
  interval ← u32_at (codes "interval") query
  evict_ms ← u32_at (codes "evictMs") query
  ok_or (settings_from preservation percent interval evict_ms) BadValue

-- What a JSON text says of an instance that is to be registered
use Rattle.std.specs.Prelude.{ℕ, ◌^◌, ◌&&◌, Bool, List, [], ◌∷◌, length, Option, Some, None, Result, Ok, Err, if◌then◌else◌, nat_lt, nat_le, ◌==◌, codes, option_and_then, is_some, unwrap_or}
use Rattle.std.specs.Str.{all_ascii_digits, bytes_eq, str_to_ascii_uppercase}
use Rattle.std.specs.Str.Parse.{digits_value}
use Rattle.serde_json.specs.Data.{Num, unsigned, negative, float, Data, null, boolean, number, string, array, object}
use Rattle.serde_json.specs.Find.{get, as_object, as_str}
use Rattle.serde_json.specs.Read.{read}
use Rattle.serde_json.specs.Written.{has_float}
use Rattle.eu_base.specs.Values.{status_of}
use Rattle.eu_base.specs.declared.faults.Fault.{Fault}
use Rattle.eu_base.specs.declared.faults.Fault.TheVariants.{NotJson, NotWhole, MissingId, MissingHost, MissingIp, MissingApp, WrongApp, MissingCenter, MissingCenterName, TooLong, BadStamp, BadDuration}
use Rattle.eu_base.specs.declared.instances.Instance.{Instance}
use Rattle.eu_base.specs.declared.statuses.Status.{Status}
use Rattle.eu_base.specs.declared.statuses.Status.TheVariants.{Up, Unknown}
use Rattle.eu_base.specs.Limits.{longest_lease, longest_name}
use Rattle.eu_base.specs.Gives.{◌>>=◌}
use Rattle.eu_json.specs.Tree.{text_at, is_among, is_blank, without}

-- up to so many decimal digits, and at least one
abbrev pub digits_within : ℕ → List ℕ → Option ℕ
digits_within most text = if nat_lt 0 (length text) && nat_le (length text) most && all_ascii_digits text then Some (digits_value 10 text) else None

-- texts that differ at most in the case of ASCII letters
abbrev pub alike : List ℕ → List ℕ → Bool
alike a b = bytes_eq (str_to_ascii_uppercase a) (str_to_ascii_uppercase b)

-- ---- the name of the lease

-- the instance's id, or its host's name where that is blank
abbrev pub name_of : Data → Result (List ℕ) Fault
name_of i =
    if is_blank (text_at (codes "hostName") i) then (if is_blank (text_at (codes "instanceId") i) then Err MissingId else Err MissingHost)
    else if is_blank (text_at (codes "instanceId") i) then Ok (text_at (codes "hostName") i)
    else Ok (text_at (codes "instanceId") i)

-- a name has at most 255 bytes
abbrev pub short : List ℕ → Result (List ℕ) Fault
short name = if nat_lt longest_name (length name) then Err TooLong else Ok name

-- ---- what must stand there

abbrev pub address_stands : Data → Result (Unit {0}) Fault
address_stands i = if is_blank (text_at (codes "ipAddr") i) then Err MissingIp else Ok tt

-- the application is that of the path, whatever the case of its ASCII letters
abbrev pub app_stands : List ℕ → Data → Result (Unit {0}) Fault
app_stands app i =
    if is_blank (text_at (codes "app") i) then Err MissingApp
    else if alike (text_at (codes "app") i) app then Ok tt
    else Err WrongApp

-- an object with a name, which is a text
abbrev pub center_stands : Data → Result (Unit {0}) Fault
center_stands i =
    if is_some (option_and_then as_object (get (codes "dataCenterInfo") i))
    then (if is_some (option_and_then as_str (option_and_then (get (codes "name")) (get (codes "dataCenterInfo") i))) then Ok tt else Err MissingCenterName)
    else Err MissingCenter

-- ---- statuses

-- the status of that name, whatever the case of its ASCII letters; any other text is UNKNOWN
abbrev pub status_named : List ℕ → Status
status_named text = unwrap_or (status_of (str_to_ascii_uppercase text)) Unknown

-- absent and null give the default, and what isn't a text is UNKNOWN
abbrev pub status_in : Status → Option Data → Status
status_in default None = default
status_in default (Some null) = default
status_in default (Some (boolean b)) = Unknown
status_in default (Some (number n)) = Unknown
status_in default (Some (string s)) = status_named s
status_in default (Some (array ds)) = Unknown
status_in default (Some (object ms)) = Unknown

-- the first, or the second where that is absent
abbrev pub first_of : Option Data → Option Data → Option Data
first_of None d = d
first_of (Some d) e = Some d

-- the member in either spelling
abbrev pub overridden_at : Data → Option Data
overridden_at i = first_of (get (codes "overriddenStatus") i) (get (codes "overriddenstatus") i)

-- ---- the stamp

abbrev pub stamp_within : ℕ → Result ℕ Fault
stamp_within n = if nat_lt n (2 ^ 63) then Ok n else Err BadStamp

abbrev pub stamp_number : Num → Result ℕ Fault
stamp_number (unsigned n) = stamp_within n
stamp_number (negative z) = Err BadStamp
stamp_number (float x) = Err BadStamp

-- 1 to 19 digits
abbrev pub stamp_digits : Option ℕ → Result ℕ Fault
stamp_digits None = Err BadStamp
stamp_digits (Some n) = stamp_within n

-- absent and null give the moment
abbrev pub stamp_in : ℕ → Option Data → Result ℕ Fault
stamp_in moment None = Ok moment
stamp_in moment (Some null) = Ok moment
stamp_in moment (Some (boolean b)) = Err BadStamp
stamp_in moment (Some (number n)) = stamp_number n
stamp_in moment (Some (string s)) = stamp_digits (digits_within 19 s)
stamp_in moment (Some (array ds)) = Err BadStamp
stamp_in moment (Some (object ms)) = Err BadStamp

-- ---- the lease

-- a member of leaseInfo, where that is an object
abbrev pub lease_member : List ℕ → Data → Option Data
lease_member name i = option_and_then (get name) (get (codes "leaseInfo") i)

-- 0 gives 90
abbrev pub secs_within : ℕ → Result ℕ Fault
secs_within n = if n == 0 then Ok 90 else if nat_le n longest_lease then Ok n else Err BadDuration

-- and so does what is below 0
abbrev pub secs_number : Num → Result ℕ Fault
secs_number (unsigned n) = secs_within n
secs_number (negative z) = Ok 90
secs_number (float x) = Err BadDuration

-- 1 to 10 digits
abbrev pub secs_digits : Option ℕ → Result ℕ Fault
secs_digits None = Err BadDuration
secs_digits (Some n) = secs_within n

-- the duration in seconds: absent and null give 90
abbrev pub secs_in : Option Data → Result ℕ Fault
secs_in None = Ok 90
secs_in (Some null) = Ok 90
secs_in (Some (boolean b)) = Err BadDuration
secs_in (Some (number n)) = secs_number n
secs_in (Some (string s)) = secs_digits (digits_within 10 s)
secs_in (Some (array ds)) = Err BadDuration
secs_in (Some (object ms)) = Err BadDuration

abbrev pub interval_within : ℕ → ℕ
interval_within n = if nat_lt 0 n && nat_lt n (2 ^ 31) then n else 30

abbrev pub interval_number : Num → ℕ
interval_number (unsigned n) = interval_within n
interval_number (negative z) = 30
interval_number (float x) = 30

-- the interval in seconds: 30 where it isn't a whole number from 1 to 2^31 - 1
abbrev pub interval_in : Option Data → ℕ
interval_in None = 30
interval_in (Some null) = 30
interval_in (Some (boolean b)) = 30
interval_in (Some (number n)) = interval_number n
interval_in (Some (string s)) = 30
interval_in (Some (array ds)) = 30
interval_in (Some (object ms)) = 30

-- ---- the whole

-- the members that the registry writes itself; of the one with two spellings it reads either
abbrev pub own_names : List (List ℕ)
own_names =
    codes "instanceId" ∷ codes "app" ∷ codes "status" ∷ codes "overriddenStatus"
    ∷ codes "overriddenstatus" ∷ codes "lastDirtyTimestamp" ∷ codes "leaseInfo" ∷ []

-- whether a member of that name is one of them
unfoldable pub is_own : List ℕ → Bool
is_own name = is_among own_names name

-- the members that the registry keeps as they came: all but those that it writes itself
abbrev pub rest_of : Data → Data
rest_of i = without own_names i

-- what is checked, in this order
unfoldable pub of_object : List ℕ → ℕ → Data → Result Instance Fault
of_object app moment i = do
  name ← name_of i
  address ← address_stands i
  own ← app_stands app i
  center ← center_stands i
  id ← short name
  last_dirty ← stamp_in moment (get (codes "lastDirtyTimestamp") i)
  secs ← secs_in (lease_member (codes "durationInSecs") i)
  Ok (record {
    key = record { app = app; id = id };
    status = status_in Up (get (codes "status") i);
    overridden = status_in Unknown (overridden_at i);
    last_dirty = last_dirty;
    secs = secs;
    interval = interval_in (lease_member (codes "renewalIntervalInSecs") i);
    rest = rest_of i;
  })

-- the member instance, and before it whether any number of the body isn't whole
abbrev pub of_member : List ℕ → ℕ → Bool → Option Data → Result Instance Fault
of_member app moment fraction None = Err NotJson
of_member app moment fraction (Some i) =
    if is_some (as_object i) then (if fraction then Err NotWhole else of_object app moment i) else Err NotJson

abbrev pub of_body : List ℕ → ℕ → Option Data → Result Instance Fault
of_body app moment None = Err NotJson
of_body app moment (Some body) = of_member app moment (has_float body) (get (codes "instance") body)

-- the instance that a text says for an application at a moment, or the first fault
abbrev pub instance_of : List ℕ → ℕ → List ℕ → Result Instance Fault
instance_of app moment text = of_body app moment (read text)

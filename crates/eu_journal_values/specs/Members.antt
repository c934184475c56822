-- Members of a line, and the values that they have
use Rattle.std.specs.Prelude.{ℕ, Bool, List, ◌^◌, Option, Some, None, Result, Ok, Err, nat_lt, nat_le, ◌&&◌, if◌then◌else◌, ok_or, option_and_then}
use Rattle.serde_json.specs.Data.{Data, null}
use Rattle.serde_json.specs.Find.{get, as_bool, as_number, as_str, as_u64}
use Rattle.eu_base.specs.Values.{action_of, status_of}
use Rattle.eu_base.specs.declared.statuses.Status.{Status}
use Rattle.eu_base.specs.declared.tasks.Action.{Action}
use Rattle.eu_base.specs.Limits.{last_moment, longest_lease}
use Rattle.eu_base.specs.Gives.{◌>>=◌}
use Rattle.eu_journal_values.specs.declared.faults.LineFault.{LineFault}
use Rattle.eu_journal_values.specs.declared.faults.LineFault.TheVariants.{NotALine}

abbrev pub needed : {A : Type 0} → Option A → Result A LineFault
needed found = ok_or found NotALine

-- a member that has to be there
abbrev pub member_in : List ℕ → Data → Result Data LineFault
member_in name d = needed (get name d)

abbrev pub text_in : List ℕ → Data → Result (List ℕ) LineFault
text_in name d = needed (option_and_then as_str (get name d))

abbrev pub truth_in : List ℕ → Data → Result Bool LineFault
truth_in name d = needed (option_and_then as_bool (get name d))

-- a whole number below 2^64
abbrev pub number_in : List ℕ → Data → Result ℕ LineFault
number_in name d = needed (option_and_then as_u64 (option_and_then as_number (get name d)))

-- a number below 2^32
abbrev pub below_32 : ℕ → Result ℕ LineFault
below_32 n = if nat_lt n (2 ^ 32) then Ok n else Err NotALine

abbrev pub small_in : List ℕ → Data → Result ℕ LineFault
small_in name d = number_in name d >>= below_32

-- a moment is at most 2^62
abbrev pub moment_of : ℕ → Result ℕ LineFault
moment_of n = if nat_le n last_moment then Ok n else Err NotALine

abbrev pub moment_in : List ℕ → Data → Result ℕ LineFault
moment_in name d = number_in name d >>= moment_of

-- a stamp is below 2^63
abbrev pub stamp_of : ℕ → Result ℕ LineFault
stamp_of n = if nat_lt n (2 ^ 63) then Ok n else Err NotALine

abbrev pub stamp_in : List ℕ → Data → Result ℕ LineFault
stamp_in name d = number_in name d >>= stamp_of

-- a lease lasts 1 to 2,147,483 s
abbrev pub lease_secs_of : ℕ → Result ℕ LineFault
lease_secs_of n = if nat_le 1 n && nat_le n longest_lease then Ok n else Err NotALine

abbrev pub lease_secs_in : List ℕ → Data → Result ℕ LineFault
lease_secs_in name d = small_in name d >>= lease_secs_of

-- a client means to renew each 1 to 2^31 - 1 s
abbrev pub renewal_secs_of : ℕ → Result ℕ LineFault
renewal_secs_of n = if nat_le 1 n && nat_lt n (2 ^ 31) then Ok n else Err NotALine

abbrev pub renewal_secs_in : List ℕ → Data → Result ℕ LineFault
renewal_secs_in name d = small_in name d >>= renewal_secs_of

abbrev pub status_in : List ℕ → Data → Result Status LineFault
status_in name d = text_in name d >>= (λ text. needed (status_of text))

abbrev pub action_in : List ℕ → Data → Result Action LineFault
action_in name d = text_in name d >>= (λ text. needed (action_of text))

-- what may be null, and else is read so
abbrev pub unless_null : {A : Type 0} → Result A LineFault → Data → Result (Option A) LineFault
unless_null read null = Ok None
unless_null read _ = read >>= (λ x. Ok (Some x))

abbrev pub optional_in : {A : Type 0} → (List ℕ → Data → Result A LineFault) → List ℕ → Data → Result (Option A) LineFault
optional_in read name d = member_in name d >>= unless_null (read name d)

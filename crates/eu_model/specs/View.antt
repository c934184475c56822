-- What is seen of the lease machine
use Rattle.std.specs.Prelude.{ℕ, ◌==◌, ◌+◌, ◌-◌, Bool, true, if◌then◌else◌, List, [], ◌∷◌, ◌++◌, Option, Some, None, length, map, filter, count_by, codes}
use Rattle.std.specs.Option.{option_map}
use Rattle.std.specs.FinMap.{len, entries}
use Rattle.std.specs.Fmt.{decimal}
use Rattle.eu_base.specs.declared.names.Key.{Key}
use Rattle.eu_base.specs.declared.statuses.Status.{Status}
use Rattle.eu_base.specs.declared.statuses.Status.TheVariants.{Up, Down, Starting, OutOfService, Unknown}
use Rattle.eu_base.specs.Values.{name_eq, status_name}
use Rattle.eu_model.specs.declared.status_counts.StatusCounts.{StatusCounts}
use Rattle.eu_model.specs.declared.views.Counts.{Counts}
use Rattle.eu_model.specs.declared.views.Gauges.{Gauges}
use Rattle.eu_model.specs.declared.views.Listed.{Listed}
use Rattle.eu_model.specs.declared.views.Query.{Query}
use Rattle.eu_model.specs.declared.views.Query.TheVariants as asked
use Rattle.eu_model.specs.declared.views.View.{View}
use Rattle.eu_model.specs.declared.views.View.TheVariants as seen
use Rattle.eu_model.specs.Machine.{last, threshold, Machine, permits, visible}
use Rattle.eu_model.specs.Change.{is_status}
use Rattle.eu_model.specs.Plain.{listed}
use Rattle.eu_model.specs.Step.{due}

abbrev pub counts : Machine → Counts
counts s = record {
  held = len s.leases;
  expected = s.expected;
  threshold = threshold s.config s.expected;
  last = last s.marks;
  permitted = permits s;
  preservation = s.config.preservation;
}

-- what is watched at a moment: the counts, and how many leases are due
abbrev pub gauges : Machine → ℕ → Gauges
gauges s t = record { counts = counts s; due = length (due s t) }

-- the lease at a key, where it is visible
abbrev pub one : Machine → Key → ℕ → Option Listed
one s k t = option_map listed (visible s k t)

-- a key of this application, or any where none is given
abbrev pub is_of : Option (List ℕ) → Key → Bool
is_of None k = true
is_of (Some app) k = name_eq k.app app

-- what is held of an application, or of all where none is given: expired or not, in key order
abbrev pub listing : Option (List ℕ) → Machine → List Listed
listing app s = map (λ e. listed e.1) (filter (λ e. is_of app e.0) (entries s.leases))

-- leases, each under the key of its instance
abbrev pub by_key : List Listed → List (Key × Listed)
by_key leases = map (λ l. (l.instance.key, l)) leases

-- how many instances are listed in a status
abbrev pub number_in : List Listed → Status → ℕ
number_in ls status = count_by (λ l. is_status l.instance.status status) ls

abbrev pub status_counts : List Listed → StatusCounts
status_counts ls = record {
  up = number_in ls Up;
  down = number_in ls Down;
  starting = number_in ls Starting;
  out_of_service = number_in ls OutOfService;
  unknown = number_in ls Unknown;
}

-- what a query sees at a moment
abbrev pub view : Machine → Query → ℕ → View
view s (asked.One k) t = seen.One (one s k t)
view s (asked.OfApp app) t = seen.OfApp (listing (Some app) s)
view s asked.All t = seen.All (listing None s)
view s asked.Counts t = seen.Counts (counts s)
view s asked.Page t = seen.Page (counts s) (status_counts (listing None s))

-- ---- the hash code of a listing (`Applications.getReconcileHashCode` in Eureka)

-- the statuses, in the order of their names' bytes
abbrev pub statuses : List Status
statuses = Down ∷ OutOfService ∷ Starting ∷ Unknown ∷ Up ∷ []

-- how many of them have a status
abbrev pub in_status : StatusCounts → Status → ℕ
in_status c Up = c.up
in_status c Down = c.down
in_status c Starting = c.starting
in_status c OutOfService = c.out_of_service
in_status c Unknown = c.unknown

-- `STATUS_n_`, where n instances have the status; nothing where none has it
abbrev pub hash_part : Status → ℕ → List ℕ
hash_part status n = if n == 0 then [] else status_name status ++ (codes "_" ++ (decimal n ++ codes "_"))

abbrev pub hash_parts : StatusCounts → List Status → List ℕ
hash_parts c [] = []
hash_parts c (status ∷ rest) = hash_part status (in_status c status) ++ hash_parts c rest

-- a part for each status that occurs, in the order of their names' bytes
abbrev pub hash_of : StatusCounts → List ℕ
hash_of c = hash_parts c statuses

-- of these leases
abbrev pub hash_code : List Listed → List ℕ
hash_code ls = hash_of (status_counts ls)

-- ---- counts that change

-- with one more in this status
abbrev pub with_one_more : StatusCounts → Status → StatusCounts
with_one_more c Up = record c { up = c.up + 1 }
with_one_more c Down = record c { down = c.down + 1 }
with_one_more c Starting = record c { starting = c.starting + 1 }
with_one_more c OutOfService = record c { out_of_service = c.out_of_service + 1 }
with_one_more c Unknown = record c { unknown = c.unknown + 1 }

-- and with one less
abbrev pub with_one_fewer : StatusCounts → Status → StatusCounts
with_one_fewer c Up = record c { up = c.up - 1 }
with_one_fewer c Down = record c { down = c.down - 1 }
with_one_fewer c Starting = record c { starting = c.starting - 1 }
with_one_fewer c OutOfService = record c { out_of_service = c.out_of_service - 1 }
with_one_fewer c Unknown = record c { unknown = c.unknown - 1 }

-- Values: names and keys, actions of tasks, statuses, settings
use Rattle.std.specs.Prelude.{ℕ, List, Bool, ◌&&◌, nat_eq, refl, ◌==◌, Option, Some, None, if◌then◌else◌, codes, nat_le}
use Rattle.std.specs.Coded.{Coded, code_by, coded×, coded_list, coded_ℕ}
use Rattle.std.specs.Ordering.{nat_cmp, ordering_then}
use Rattle.std.specs.declared.cmp.Ordering.{Ordering}
use Rattle.std.specs.Cmp.Lexicographic.{pointwise, slice_cmp}
use Rattle.eu_base.specs.declared.names.Key.{Key}
use Rattle.std.specs.Str.{bytes_eq}
use Rattle.eu_base.specs.declared.tasks.Action.{Action}
use Rattle.eu_base.specs.declared.tasks.Action.TheVariants.{Register, Heartbeat, Cancel, StatusUpdate, DeleteStatusOverride}
use Rattle.eu_base.specs.declared.tasks.Task.{Task}
use Rattle.eu_base.specs.declared.statuses.Status.{Status}
use Rattle.eu_base.specs.declared.statuses.Status.TheVariants.{Up, Down, Starting, OutOfService, Unknown}
use Rattle.eu_base.specs.declared.settings.Config.{Config}

-- ---- the order of keys

-- names are ordered by their bytes
abbrev pub name_cmp : List ℕ → List ℕ → Ordering
name_cmp = slice_cmp nat_cmp

-- keys by application, and then by id
abbrev pub key_cmp : Key → Key → Ordering
key_cmp a b = ordering_then (name_cmp a.app b.app) (name_cmp a.id b.id)

-- names are equal where their bytes are, and keys where both names are
abbrev pub name_eq : List ℕ → List ℕ → Bool
name_eq = pointwise nat_eq

abbrev pub key_eq : Key → Key → Bool
key_eq a b = name_eq a.app b.app && name_eq a.id b.id

-- a key is stored as the pair of its names
abbrev pub coded_key : Coded Key
coded_key = code_by (List ℕ × List ℕ) (coded× (coded_list coded_ℕ) (coded_list coded_ℕ)) (λ k. (k.app, k.id)) (λ p. record { app = p.0; id = p.1 }) (λ _. refl)

-- ---- the actions of tasks

abbrev pub action_name : Action → List ℕ
action_name Register = codes "Register"
action_name Heartbeat = codes "Heartbeat"
action_name Cancel = codes "Cancel"
action_name StatusUpdate = codes "StatusUpdate"
action_name DeleteStatusOverride = codes "DeleteStatusOverride"

-- the action of that name, if it is one
abbrev pub action_of : List ℕ → Option Action
action_of text =
    if bytes_eq text (codes "Register") then Some Register
    else if bytes_eq text (codes "Heartbeat") then Some Heartbeat
    else if bytes_eq text (codes "Cancel") then Some Cancel
    else if bytes_eq text (codes "StatusUpdate") then Some StatusUpdate
    else if bytes_eq text (codes "DeleteStatusOverride") then Some DeleteStatusOverride
    else None

-- the place of an action among the five, by which they are told apart
abbrev pub place_of_action : Action → ℕ
place_of_action Register = 0
place_of_action Heartbeat = 1
place_of_action Cancel = 2
place_of_action StatusUpdate = 3
place_of_action DeleteStatusOverride = 4

abbrev pub is_action : Action → Action → Bool
is_action a b = place_of_action a == place_of_action b

-- two tasks have one name: the same action on the same key
abbrev pub same_name : Task → Task → Bool
same_name a b = is_action a.action b.action && key_eq a.key b.key

-- ---- the names of statuses

abbrev pub status_name : Status → List ℕ
status_name Up = codes "UP"
status_name Down = codes "DOWN"
status_name Starting = codes "STARTING"
status_name OutOfService = codes "OUT_OF_SERVICE"
status_name Unknown = codes "UNKNOWN"

-- the status of that name, if it is one
abbrev pub status_of : List ℕ → Option Status
status_of text =
    if bytes_eq text (codes "UP") then Some Up
    else if bytes_eq text (codes "DOWN") then Some Down
    else if bytes_eq text (codes "STARTING") then Some Starting
    else if bytes_eq text (codes "OUT_OF_SERVICE") then Some OutOfService
    else if bytes_eq text (codes "UNKNOWN") then Some Unknown
    else None

-- ---- settings within their limits

-- a percentage is up to 100, and an interval from 1 to 3,600 s
abbrev pub are_settings : ℕ → ℕ → Bool
are_settings percent interval = nat_le percent 100 && (nat_le 1 interval && nat_le interval 3600)

-- the settings of these values, if they are within their limits
unfoldable pub settings_from : Bool → ℕ → ℕ → ℕ → Option Config
settings_from preservation percent interval evict_ms =
    if are_settings percent interval then Some (record { preservation = preservation; percent = percent; interval = interval; evict_ms = evict_ms })
    else None

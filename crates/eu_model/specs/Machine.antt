-- The lease machine: the record of a lease, the renewals that were counted, the threshold, and the state
use Rattle.std.specs.Prelude.{ℕ, ◌+◌, ◌*◌, Bool, List, [], ◌∷◌, ◌++◌, nat_lt, true, false, count_by, ◌-◌, ◌/◌, not, ◌||◌, ◌&&◌, if◌then◌else◌, map, Option, Some, None}
use Rattle.eu_base.specs.declared.instances.Instance.{Instance}
use Rattle.std.specs.List.{after_last, before_last}
use Rattle.eu_base.specs.declared.settings.Config.{Config}
use Rattle.std.specs.declared.cmp.Ordering.{Ordering}
use Rattle.std.specs.FinMap.{FinMap, entries, from_sorted, insert, remove, empty, get}
use Rattle.eu_base.specs.declared.statuses.Status.{Status}
use Rattle.eu_base.specs.declared.names.Key.{Key}
use Rattle.eu_base.specs.Values.{name_cmp, key_cmp}

-- ---- leases, as the history of their touches. (`Lease` in Eureka keeps one number, the last update; a renewal sets it one duration later than its moment, so that a renewed lease lasts for two)

-- a lease is touched when it is made, and each time that it is renewed
pub data Kind : Type 0 where
  Fresh : Kind
  Renewed : Kind

pub record Touch : Type 0 where
  pub at : ℕ
  pub kind : Kind

-- up is the first moment at which the instance was up, or 0. The touches stand in order, the newest last
pub record Record : Type 0 where
  pub instance : Instance
  pub registered : ℕ
  pub up : ℕ
  pub touches : List Touch

-- how long a lease lasts, in milliseconds
abbrev pub duration : Instance → ℕ
duration i = 1000 * i.secs

abbrev pub newest_from : Touch → List Touch → Touch
newest_from t [] = t
newest_from t (u ∷ us) = newest_from u us

-- the newest touch. Each record has one
abbrev pub newest : List Touch → Touch
newest touches = newest_from (record { at = 0; kind = Fresh }) touches

-- a fresh lease lasts for one duration, and a renewed one for two
abbrev pub durations : Kind → ℕ
durations Fresh = 1
durations Renewed = 2

-- whether a lease has expired at a moment, if it is granted some extra time (`Lease.isExpired`)
abbrev pub is_expired : Record → ℕ → ℕ → Bool
is_expired r t extra = nat_lt ((newest r.touches).at + durations (newest r.touches).kind * duration r.instance + extra) t

-- a lease that begins now
abbrev pub new_record : Instance → ℕ → ℕ → Record
new_record i up t = record { instance = i; registered = t; up = up; touches = record { at = t; kind = Fresh } ∷ [] }

-- the same lease, renewed now
abbrev pub renewed : Record → ℕ → Record
renewed r t = record r { touches = r.touches ++ record { at = t; kind = Renewed } ∷ [] }

-- ---- renewals, counted by the minute (`MeasuredRate` in Eureka)

-- a renewal was counted, or a minute ended
pub data Mark : Type 0 where
  Renewal : Mark
  Minute : Mark

abbrev pub is_renewal : Mark → Bool
is_renewal Renewal = true
is_renewal Minute = false

abbrev pub is_minute : Mark → Bool
is_minute Renewal = false
is_minute Minute = true

-- the renewals after the last end of a minute, or all where none has ended
unfoldable pub since : List Mark → ℕ
since marks = count_by is_renewal (after_last is_minute marks)

-- the renewals of the last whole minute (`MeasuredRate.getCount`): those before its end and after the end before. 0 where no minute has ended
unfoldable pub last : List Mark → ℕ
last marks = since (before_last is_minute marks)

-- ---- how many renewals are wanted, and how many leases an eviction may take

-- the renewals a minute that so many clients owe, cut to the percentage: one in each interval of so many seconds
-- (`AbstractInstanceRegistry.updateRenewsPerMinThreshold` in Eureka, in whole numbers)
abbrev pub threshold : Config → ℕ → ℕ
threshold c expected = expected * 60 * c.percent / (c.interval * 100)

-- how many of n leases one eviction may take (`evictionLimit` in `AbstractInstanceRegistry.evict`)
abbrev pub share : Config → ℕ → ℕ
share c n = n - n * c.percent / 100

-- eviction is permitted where self-preservation is off, or where there is a threshold and more than it were renewed
-- (`PeerAwareInstanceRegistryImpl.isLeaseExpirationEnabled`)
abbrev pub is_permitted : Config → ℕ → ℕ → Bool
is_permitted c expected renewals = not c.preservation || (nat_lt 0 (threshold c expected) && nat_lt (threshold c expected) renewals)

-- the number expected after the clients are counted anew: the leases held, where they are more than the percentage of
-- those that were expected, or where self-preservation is off (`PeerAwareInstanceRegistryImpl.updateRenewalThreshold`)
abbrev pub expected_after : Config → ℕ → ℕ → ℕ
expected_after c expected held = if nat_lt (c.percent * expected) (held * 100) || not c.preservation then held else expected

-- ---- finite maps

-- the same keys, with f of each value
unfoldable pub map_values : {K X Y : Type 0} {R : K → K → Ordering} → (X → Y) → FinMap R X → FinMap R Y
map_values f m = from_sorted (map (λ e. (e.0, f e.1)) (entries m))

-- the map with this value at the key, or without the key
abbrev pub with_value : {K X : Type 0} {R : K → K → Ordering} → FinMap R X → K → Option X → FinMap R X
with_value m k None = remove m k
with_value m k (Some x) = insert m k x

-- the map without these keys
abbrev pub without : {K X : Type 0} {R : K → K → Ordering} → FinMap R X → List K → FinMap R X
without m [] = m
without m (k ∷ ks) = without (remove m k) ks

-- ---- the lease machine, with its whole past (the fields of `AbstractInstanceRegistry` in Eureka)

-- leases by key (`registry`); override rows by instance id alone (`overriddenInstanceStatusMap`); the number of clients that are
-- expected to renew (`expectedNumberOfClientsSendingRenews`); the renewals counted; the previous eviction (`lastExecutionNanosRef`)
pub record Machine : Type 0 where
  pub config : Config
  pub leases : FinMap key_cmp Record
  pub overrides : FinMap name_cmp Status
  pub expected : ℕ
  pub marks : List Mark
  pub previous : Option ℕ

-- the machine as it is opened
abbrev pub opening : Config → ℕ → Machine
opening c expected = record { config = c; leases = empty; overrides = empty; expected = expected; marks = []; previous = None }

-- whether eviction is permitted now
abbrev pub permits : Machine → Bool
permits s = is_permitted s.config s.expected (last s.marks)

-- a lease that is held, unless eviction is permitted and it has expired
abbrev pub seen : Bool → ℕ → Option Record → Option Record
seen permitted t None = None
seen permitted t (Some r) = if permitted && is_expired r t 0 then None else Some r

-- the lease that is visible at a key, at a moment
abbrev pub visible : Machine → Key → ℕ → Option Record
visible s k t = seen (permits s) t (get s.leases k)

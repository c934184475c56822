-- What the entries of a run say: who holds a lease and until when, the settings, how many are expected, the last minute's renewals, and what
-- an eviction may do. Newest means last in the list, also where moments go back
use Rattle.std.specs.Prelude.{ℕ, ◌+◌, ◌-◌, ◌*◌, ◌/◌, Bool, true, false, ◌&&◌, ◌||◌, not, nat_lt, if◌then◌else◌, List, [], ◌∷◌, ◌++◌, reverse, length, count_by, Option, Some, None, is_some, unwrap_or}
use Rattle.std.specs.List.{find, list_any, after_last, before_last}
use Rattle.std.specs.Option.{option_map, option_map_or}
use Rattle.eu_base.specs.declared.instances.Instance.{Instance}
use Rattle.eu_base.specs.declared.names.Key.{Key}
use Rattle.eu_base.specs.declared.settings.Config.{Config}
use Rattle.eu_base.specs.Values.{key_eq}
use Rattle.eu_model.specs.declared.commands.Command.{Command}
use Rattle.eu_model.specs.declared.commands.Command.TheVariants.{Register, Renew, Cancel, SetStatus, UnsetStatus, Adopt, EndMinute, Update, Reconfigure, Evict}
use Rattle.eu_model.specs.declared.commands.Entry.{Entry}
use Rattle.eu_model.specs.declared.commands.Reply.{Reply}
use Rattle.eu_model.specs.declared.commands.Reply.TheVariants.{Registered, Done, NotFound, Expected, Evicted}

-- ---- what one entry does to the lease at a key

-- the instance that is registered: by a registration, or by an adoption
abbrev pub registered_by : Command → Option Instance
registered_by (Register n replicated) = Some n
registered_by (Adopt n) = Some n
registered_by _ = None

-- the command wasn't answered that nothing was found
abbrev pub is_found : Reply → Bool
is_found NotFound = false
is_found _ = true

-- the key of the lease that is renewed: by a heartbeat, or by a status that is set or unset, unless it was answered that nothing was found
abbrev pub renewed_by : Command → Reply → Option Key
renewed_by (Renew k last_dirty overridden replicated) reply = if is_found reply then Some k else None
renewed_by (SetStatus k status last_dirty replicated) reply = if is_found reply then Some k else None
renewed_by (UnsetStatus k suggested last_dirty replicated) reply = if is_found reply then Some k else None
renewed_by _ _ = None

-- the keys of the leases that an eviction takes
abbrev pub evicted_by : Command → Reply → List Key
evicted_by Evict (Evicted victims) = victims
evicted_by _ _ = []

-- the keys of the leases that go: by a cancel that found its lease, or by an eviction
abbrev pub ended_by : Command → Reply → List Key
ended_by (Cancel k replicated) reply = if is_found reply then k ∷ [] else []
ended_by c reply = evicted_by c reply

abbrev pub registers : Key → Command → Bool
registers k c = option_map_or (λ n. key_eq k n.key) (registered_by c) false

abbrev pub renews : Key → Command → Reply → Bool
renews k c reply = option_map_or (key_eq k) (renewed_by c reply) false

abbrev pub touches : Key → Command → Reply → Bool
touches k c reply = registers k c || renews k c reply

abbrev pub ends : Key → Command → Reply → Bool
ends k c reply = list_any (key_eq k) (ended_by c reply)

-- ---- what the entries up to now say of the lease at a key

-- the newest entry that passes the test
abbrev pub newest_where : (Entry → Bool) → List Entry → Option Entry
newest_where test es = find test (reverse es)

abbrev pub newest_touch : Key → List Entry → Option Entry
newest_touch k es = newest_where (λ e. touches k e.command e.reply) es

abbrev pub newest_registration : Key → List Entry → Option Entry
newest_registration k es = newest_where (λ e. registers k e.command) es

-- a lease is held where the newest entry that registered or ended it registered it
abbrev pub is_held : Key → List Entry → Bool
is_held k es = option_map_or (λ e. registers k e.command) (newest_where (λ e. registers k e.command || ends k e.command e.reply) es) false

-- how long the instance lasts that is registered, in milliseconds
abbrev pub duration_by : Command → ℕ
duration_by c = option_map_or (λ n. 1000 * n.secs) (registered_by c) 0

-- from a registration on a lease lasts for one duration, and from each renewal on for two
abbrev pub durations_after : Key → Command → ℕ
durations_after k c = if registers k c then 1 else 2

-- until when a lease lasts, from its newest touch on, for the duration of its newest registration
abbrev pub lasts_from : Key → Option Entry → Option Entry → Option ℕ
lasts_from k None registration = None
lasts_from k (Some touch) None = None
lasts_from k (Some touch) (Some registration) =
    Some (touch.moment + durations_after k touch.command * duration_by registration.command)

abbrev pub lasts_until : Key → List Entry → Option ℕ
lasts_until k es = lasts_from k (newest_touch k es) (newest_registration k es)

-- ---- minutes

-- a heartbeat is counted, unless it was answered that nothing was found
abbrev pub is_counted : Command → Reply → Bool
is_counted (Renew k last_dirty overridden replicated) reply = is_found reply
is_counted _ _ = false

abbrev pub ends_minute : Command → Bool
ends_minute EndMinute = true
ends_minute _ = false

-- the heartbeats counted since the last end of a minute, or all where none has ended
abbrev pub renewals_since : List Entry → ℕ
renewals_since es = count_by (λ e. is_counted e.command e.reply) (after_last (λ e. ends_minute e.command) es)

-- the heartbeats counted between the last two ends of minutes, or up to the only one. 0 where no minute has ended
abbrev pub renewals_of_last_minute : List Entry → ℕ
renewals_of_last_minute es = renewals_since (before_last (λ e. ends_minute e.command) es)

-- ---- settings, and the number expected

-- the settings that are changed to
abbrev pub set_by : Command → Option Config
set_by (Reconfigure config) = Some config
set_by _ = None

-- the settings: those of the newest change, or those of the opening
abbrev pub settings : Config → List Entry → Config
settings config es = option_map_or (λ e. unwrap_or (set_by e.command) config) (newest_where (λ e. is_some (set_by e.command)) es) config

-- One more client is expected for each lease that comes, where any were expected; one fewer for a cancel that found its lease, and for each
-- victim of an eviction, but never fewer than none; and as many as an update answers
abbrev pub expected_then : ℕ → Command → Reply → ℕ
expected_then n (Register i replicated) (Registered true) = if nat_lt 0 n then n + 1 else n
expected_then n (Adopt i) (Registered true) = if nat_lt 0 n then n + 1 else n
expected_then n (Cancel k replicated) Done = n - 1
expected_then n Evict (Evicted victims) = n - length victims
expected_then n Update (Expected m) = m
expected_then n _ _ = n

-- the number expected after these entries, of so many before them
abbrev pub expected_by : ℕ → List Entry → ℕ
expected_by n [] = n
expected_by n (e ∷ es) = expected_by (expected_then n e.command e.reply) es

-- ---- evictions

-- the heartbeats that are wanted in a minute, more than which permit an eviction: one in each interval of so many seconds, cut to the percentage
abbrev pub wanted : Config → ℕ → ℕ
wanted c expected = expected * 60 * c.percent / (c.interval * 100)

-- whether an eviction is permitted: self-preservation is off, or heartbeats are wanted, and more were counted in the last minute
abbrev pub allows : Config → ℕ → ℕ → Bool
allows c expected renewals = not c.preservation || (nat_lt 0 (wanted c expected) && nat_lt (wanted c expected) renewals)

-- how many of so many leases an eviction may take: all but the percentage
abbrev pub most : Config → ℕ → ℕ
most c held = held - held * c.percent / 100

abbrev pub is_evict : Command → Bool
is_evict Evict = true
is_evict _ = false

-- the moment of the newest eviction
abbrev pub previous_eviction : List Entry → Option ℕ
previous_eviction es = option_map (λ e. e.moment) (newest_where (λ e. is_evict e.command) es)

-- the time that an eviction grants beyond: what it comes later than one eviction interval after the eviction before; the first grants none
abbrev pub granted : Config → List Entry → ℕ → ℕ
granted c es t = option_map_or (λ previous. t - previous - c.evict_ms) (previous_eviction es) 0

-- whether a lease is held, and has expired for an eviction that comes now
abbrev pub is_due : Config → List Entry → ℕ → Key → Bool
is_due c es t k = is_held k es && option_map_or (λ until. nat_lt (until + granted c es t) t) (lasts_until k es) false

-- all that were evicted, each time
abbrev pub all_evicted : List Entry → List Key
all_evicted [] = []
all_evicted (e ∷ es) = evicted_by e.command e.reply ++ all_evicted es

-- how many times others were evicted than those at these keys
abbrev pub evicted_beside : List Key → List Entry → ℕ
evicted_beside ks es = count_by (λ k. not (list_any (key_eq k) ks)) (all_evicted es)

-- The steps of the machine, evictions among them, and when a command is refused
use Rattle.std.specs.Prelude.{◌≡◌, ℕ, ◌-◌, Bool, List, length, map, filter, min, if◌then◌else◌, Option, Some, None, All, Contains, [], ◌∷◌, ◌++◌, ◌^◌, ◌==◌, ◌&&◌}
use Rattle.std.specs.List.{IsDistinct}
use Rattle.std.specs.FinMap.{entries, len, get, contains_key}
use Rattle.eu_base.specs.declared.settings.Config.{Config}
use Rattle.eu_base.specs.declared.names.Key.{Key}
use Rattle.eu_base.specs.Values.{key_eq}
use Rattle.eu_model.specs.Machine.{is_expired, share, without, Machine, permits, Record, Mark, last, expected_after, with_value, visible, since}
use Rattle.eu_model.specs.declared.commands.Command.{Command}
use Rattle.eu_model.specs.declared.commands.Command.TheVariants.{Register, Renew, Cancel, SetStatus, UnsetStatus, Adopt, EndMinute, Update, Reconfigure, Evict, Drain, Landed, Lost}
use Rattle.eu_model.specs.declared.commands.Reply.{Reply}
use Rattle.eu_model.specs.declared.commands.Reply.TheVariants.{Done, Last, Expected, Evicted}
use Rattle.eu_model.specs.Machine.Mark.{Renewal, Minute}
use Rattle.eu_model.specs.Change.{Change, register, renew, cancel, set_status, unset_status, adopt}
use Rattle.eu_base.specs.declared.faults.Fault.{Fault}
use Rattle.eu_base.specs.declared.faults.Fault.TheVariants.{Full, Exhausted}
use Rattle.eu_base.specs.Limits.{most_expected, most_leases, most_renewals}

-- ---- evictions (`AbstractInstanceRegistry.evict` in Eureka)

-- the extra time that an eviction grants each lease: what it comes later than one interval after the eviction before; the first grants none
-- (`EvictionTask.getCompensationTimeMs`)
abbrev pub extra_time : Config → Option ℕ → ℕ → ℕ
extra_time c None t = 0
extra_time c (Some previous) t = t - previous - c.evict_ms

-- the keys of the leases that have expired, in key order
abbrev pub due : Machine → ℕ → List Key
due s t = map (λ e. e.0) (filter (λ e. is_expired e.1 t (extra_time s.config s.previous t)) (entries s.leases))

-- how many leases go, of so many that are due and so many that are held: all, but at most the share, and nobody where eviction
-- isn't permitted
abbrev pub number_of_victims : Config → Bool → ℕ → ℕ → ℕ
number_of_victims c permitted expired held = if permitted then min expired (share c held) else 0

abbrev pub number_evicted : Machine → ℕ → ℕ
number_evicted s t = number_of_victims s.config (permits s) (length (due s t)) (len s.leases)

-- the victims of an eviction: any of the keys that are due, each once, and exactly so many
pub record AreVictims (s : Machine) (t : ℕ) (victims : List Key) : Type 0 where
  pub expired : All (Contains (due s t)) victims
  pub once : IsDistinct key_eq victims
  pub number : length victims ≡ number_evicted s t

-- the machine after an eviction: the victims' leases and their ids' rows are gone, each victim is one less expected, though never fewer than
-- none are (`AbstractInstanceRegistry.internalCancel`), and it is the previous eviction
abbrev pub evicted : Machine → ℕ → List Key → Machine
evicted s t victims = record s {
  leases = without s.leases victims;
  overrides = without s.overrides (map (λ k. k.id) victims);
  expected = s.expected - length victims;
  previous = Some t;
}

-- ---- what a step of the lease machine may be

-- a renewal that is counted leaves a mark
abbrev pub marked : Bool → List Mark → List Mark
marked counted marks = if counted then marks ++ Renewal ∷ [] else marks

-- the machine after a step on the lease at a key. What isn't named stays
abbrev pub changed : Machine → Key → Change Record → Machine
changed s k change = record s {
  leases = with_value s.leases k change.lease;
  overrides = with_value s.overrides k.id change.row;
  expected = change.expected;
  marks = marked change.counted s.marks;
}

-- a step on the lease at a key makes this change, and no other
abbrev pub Changes : Machine → Key → Change Record → Reply → Machine → Type 0
Changes old k change reply new = (reply ≡ change.reply) × (new ≡ changed old k change)

-- the machine after a minute ended
abbrev pub after_minute : Machine → Machine
after_minute s = record s { marks = s.marks ++ Minute ∷ [] }

-- the number expected after an update
abbrev pub updated : Machine → ℕ
updated s = expected_after s.config s.expected (len s.leases)

-- the machine under other settings. The number expected, the marks and the previous eviction stay (Eureka reads its settings,
-- `EurekaServerConfig`, from its properties, which may change while it runs)
abbrev pub reconfigured : Machine → Config → Machine
reconfigured s config = record s { config = config }

-- From old, the machine may answer the command so at the moment t, and go on to new
abbrev pub Step : Machine → Command → ℕ → Reply → Machine → Type 0
Step old (Register n replicated) t reply new =
    Changes old n.key (register (get old.leases n.key) (get old.overrides n.key.id) old.expected n replicated t) reply new
Step old (Renew k last_dirty overridden replicated) t reply new =
    Changes old k (renew (get old.leases k) (get old.overrides k.id) old.expected last_dirty overridden replicated t) reply new
Step old (Cancel k replicated) t reply new = Changes old k (cancel (get old.leases k) old.expected) reply new
Step old (SetStatus k status last_dirty replicated) t reply new =
    Changes old k (set_status (visible old k t) (get old.leases k) (get old.overrides k.id) old.expected status last_dirty t) reply new
Step old (UnsetStatus k suggested last_dirty replicated) t reply new =
    Changes old k (unset_status (visible old k t) (get old.leases k) (get old.overrides k.id) old.expected suggested last_dirty t) reply new
Step old (Adopt n) t reply new = Changes old n.key (adopt (get old.leases n.key) (get old.overrides n.key.id) old.expected n t) reply new
Step old EndMinute t reply new = (reply ≡ Last (last (after_minute old).marks)) × (new ≡ after_minute old)
Step old Update t reply new = (reply ≡ Expected (updated old)) × (new ≡ record old { expected = updated old })
Step old (Reconfigure config) t reply new = (reply ≡ Done) × (new ≡ reconfigured old config)
-- what goes to peers is no step of the machine alone
Step old (Drain peer) t reply new = ⊥
Step old (Landed peer codes) t reply new = ⊥
Step old (Lost peer) t reply new = ⊥
-- an eviction may take any victims of the right number
Step old Evict t reply new = (victims : List Key) × (reply ≡ Evicted victims) × AreVictims old t victims × (new ≡ evicted old t victims)

-- ---- why the lease machine refuses a command

-- a lease that comes finds no room, or as many expected as can be
abbrev pub join_fault : Machine → Key → Option Fault
join_fault s k =
    if contains_key s.leases k then None
    else if len s.leases == most_leases then Some Full
    else if s.expected == most_expected then Some Exhausted
    else None

-- why a command is refused, if it is: a newcomer as above, and a renewal that would be counted where as many are as can be
abbrev pub fault : Machine → Command → ℕ → Option Fault
fault s (Register n replicated) t = join_fault s n.key
fault s (Renew k last_dirty overridden replicated) t =
    if (renew (get s.leases k) (get s.overrides k.id) s.expected last_dirty overridden replicated t).counted && (since s.marks == most_renewals)
    then Some Exhausted else None
fault s (Cancel k replicated) t = None
fault s (SetStatus k status last_dirty replicated) t = None
fault s (UnsetStatus k suggested last_dirty replicated) t = None
fault s (Adopt n) t = join_fault s n.key
fault s EndMinute t = None
fault s Update t = None
fault s (Reconfigure config) t = None
fault s Evict t = None
-- what goes to peers is refused by their queues
fault s (Drain peer) t = None
fault s (Landed peer codes) t = None
fault s (Lost peer) t = None

-- The steps, taken on plain forms: changes of one lease by the rules of `Change`; expiry, visibility, faults and evictions as `Law` shows them to be those of the machine
use Rattle.std.specs.Prelude.{◌≡◌, ℕ, ◌+◌, ◌-◌, ◌^◌, ◌==◌, Bool, ◌&&◌, nat_lt, if◌then◌else◌, Option, Some, None, List, [], ◌∷◌, length, map, filter, All, Contains}
use Rattle.std.specs.Option.{option_map}
use Rattle.std.specs.List.{IsDistinct}
use Rattle.std.specs.FinMap.{get, len, contains_key, entries}
use Rattle.eu_base.specs.declared.settings.Config.{Config}
use Rattle.eu_base.specs.declared.statuses.Status.{Status}
use Rattle.eu_base.specs.declared.faults.Fault.{Fault}
use Rattle.eu_base.specs.declared.faults.Fault.TheVariants.{Full, Exhausted}
use Rattle.eu_base.specs.declared.instances.Instance.{Instance}
use Rattle.eu_base.specs.declared.names.Key.{Key}
use Rattle.eu_model.specs.declared.commands.Command.{Command}
use Rattle.eu_model.specs.declared.commands.Command.TheVariants.{Register, Renew, Cancel, SetStatus, UnsetStatus, Adopt, EndMinute, Update, Reconfigure, Evict, Drain, Landed, Lost}
use Rattle.eu_model.specs.declared.commands.Reply.{Reply}
use Rattle.eu_model.specs.declared.commands.Reply.TheVariants.{Done, Last, Expected, Evicted}
use Rattle.eu_base.specs.Values.{key_eq}
use Rattle.eu_base.specs.Limits.{most_expected, most_leases, most_renewals}
use Rattle.eu_model.specs.declared.views.Listed.{Listed}
use Rattle.eu_model.specs.Machine.{Record, duration, is_permitted, expected_after, with_value, without}
use Rattle.eu_model.specs.Machine.Kind.{Fresh}
use Rattle.eu_model.specs.Step.{extra_time, number_of_victims}
use Rattle.eu_model.specs.Change.{Change, register, renew, cancel, set_status, unset_status, adopt}
use Rattle.eu_model.specs.Plain.{Plain, listed}
use Rattle.eu_model.specs.View.{is_of}

-- some record that is listed so
abbrev pub raised : Listed → Record
raised l = record {
  instance = l.instance;
  registered = l.times.registered;
  up = l.times.up;
  touches = record { at = l.times.updated; kind = Fresh } ∷ [];
}

-- a change with its lease as it is listed
abbrev pub plain_change : Change Record → Change Listed
plain_change c = record { lease = option_map listed c.lease; row = c.row; expected = c.expected; counted = c.counted; reply = c.reply }

abbrev pub plain_register : Option Listed → Option Status → ℕ → Instance → Bool → ℕ → Change Listed
plain_register held row expected n replicated t = plain_change (register (option_map raised held) row expected n replicated t)

abbrev pub plain_renew : Option Listed → Option Status → ℕ → Option ℕ → Option Status → Bool → ℕ → Change Listed
plain_renew held row expected last_dirty overridden replicated t =
    plain_change (renew (option_map raised held) row expected last_dirty overridden replicated t)

abbrev pub plain_cancel : Option Listed → ℕ → Change Listed
plain_cancel held expected = plain_change (cancel (option_map raised held) expected)

abbrev pub plain_set_status : Option Listed → Option Listed → Option Status → ℕ → Status → Option ℕ → ℕ → Change Listed
plain_set_status seen held row expected status last_dirty t =
    plain_change (set_status (option_map raised seen) (option_map raised held) row expected status last_dirty t)

abbrev pub plain_unset_status : Option Listed → Option Listed → Option Status → ℕ → Option Status → Option ℕ → ℕ → Change Listed
plain_unset_status seen held row expected suggested last_dirty t =
    plain_change (unset_status (option_map raised seen) (option_map raised held) row expected suggested last_dirty t)

abbrev pub plain_adopt : Option Listed → Option Status → ℕ → Instance → ℕ → Change Listed
plain_adopt held row expected n t = plain_change (adopt (option_map raised held) row expected n t)

-- the plain form after a change
abbrev pub after : Plain → Key → Change Listed → Plain
after p k change = record p {
  leases = with_value p.leases k change.lease;
  overrides = with_value p.overrides k.id change.row;
  expected = change.expected;
  since = if change.counted then p.since + 1 else p.since;
}

abbrev pub plain_join_fault : Plain → Key → Option Fault
plain_join_fault p k =
    if contains_key p.leases k then None
    else if len p.leases == most_leases then Some Full
    else if p.expected == most_expected then Some Exhausted
    else None

abbrev pub plain_renew_fault : Plain → Bool → Option Fault
plain_renew_fault p counted = if counted && (p.since == most_renewals) then Some Exhausted else None

-- whether what is listed has expired
abbrev pub plain_expired : Listed → ℕ → ℕ → Bool
plain_expired l t extra = nat_lt (l.times.updated + duration l.instance + extra) t

-- a listed lease, unless eviction is permitted and it has expired
abbrev pub plain_seen : Bool → ℕ → Option Listed → Option Listed
plain_seen permitted t None = None
plain_seen permitted t (Some l) = if permitted && plain_expired l t 0 then None else Some l

-- the lease that is seen at a key, at a moment
abbrev pub plain_one : Plain → Key → ℕ → Option Listed
plain_one p k t = plain_seen (is_permitted p.config p.expected p.last) t (get p.leases k)

-- what is listed of an application, or of all where none is given
abbrev pub plain_listing : Option (List ℕ) → Plain → List Listed
plain_listing app p = map (λ e. e.1) (filter (λ e. is_of app e.0) (entries p.leases))

abbrev pub plain_after_minute : Plain → Plain
plain_after_minute p = record p { last = p.since; since = 0 }

abbrev pub plain_updated : Plain → ℕ
plain_updated p = expected_after p.config p.expected (len p.leases)

abbrev pub plain_reconfigured : Plain → Config → Plain
plain_reconfigured p config = record p { config = config }

-- the keys of what has expired, in key order
abbrev pub plain_due : Plain → ℕ → List Key
plain_due p t = map (λ e. e.0) (filter (λ e. plain_expired e.1 t (extra_time p.config p.previous t)) (entries p.leases))

abbrev pub plain_number_evicted : Plain → ℕ → ℕ
plain_number_evicted p t = number_of_victims p.config (is_permitted p.config p.expected p.last) (length (plain_due p t)) (len p.leases)

-- the victims of an eviction
pub record ArePlainVictims (p : Plain) (t : ℕ) (victims : List Key) : Type 0 where
  pub expired : All (Contains (plain_due p t)) victims
  pub once : IsDistinct key_eq victims
  pub number : length victims ≡ plain_number_evicted p t

abbrev pub plain_evicted : Plain → ℕ → List Key → Plain
plain_evicted p t victims = record p {
  leases = without p.leases victims;
  overrides = without p.overrides (map (λ k. k.id) victims);
  expected = p.expected - length victims;
  previous = Some t;
}

-- the change at this key is answered so, and leaves this
abbrev pub Becomes : Plain → Key → Change Listed → Reply → Plain → Type 0
Becomes old k change reply new = (reply ≡ change.reply) × (new ≡ after old k change)

-- the registry accepts the command at the moment t, answers it so, and goes on to new
abbrev pub PlainStep : Plain → Command → ℕ → Reply → Plain → Type 0
PlainStep old (Register n replicated) t reply new =
    (plain_join_fault old n.key ≡ None)
    × Becomes old n.key (plain_register (get old.leases n.key) (get old.overrides n.key.id) old.expected n replicated t) reply new
PlainStep old (Adopt n) t reply new =
    (plain_join_fault old n.key ≡ None)
    × Becomes old n.key (plain_adopt (get old.leases n.key) (get old.overrides n.key.id) old.expected n t) reply new
PlainStep old (Renew k last_dirty overridden replicated) t reply new =
    let change = plain_renew (get old.leases k) (get old.overrides k.id) old.expected last_dirty overridden replicated t in
    (plain_renew_fault old change.counted ≡ None) × Becomes old k change reply new
PlainStep old (Cancel k replicated) t reply new = Becomes old k (plain_cancel (get old.leases k) old.expected) reply new
PlainStep old (SetStatus k status last_dirty replicated) t reply new =
    Becomes old k (plain_set_status (plain_one old k t) (get old.leases k) (get old.overrides k.id) old.expected status last_dirty t) reply new
PlainStep old (UnsetStatus k suggested last_dirty replicated) t reply new =
    Becomes old k (plain_unset_status (plain_one old k t) (get old.leases k) (get old.overrides k.id) old.expected suggested last_dirty t) reply new
PlainStep old EndMinute t reply new = (reply ≡ Last old.since) × (new ≡ plain_after_minute old)
PlainStep old Update t reply new = (reply ≡ Expected (plain_updated old)) × (new ≡ record old { expected = plain_updated old })
PlainStep old (Reconfigure config) t reply new = (reply ≡ Done) × (new ≡ plain_reconfigured old config)
PlainStep old Evict t reply new =
    (victims : List Key) × (reply ≡ Evicted victims) × ArePlainVictims old t victims × (new ≡ plain_evicted old t victims)
-- what goes to peers is no step of the registry alone
PlainStep old (Drain peer) t reply new = ⊥
PlainStep old (Landed peer codes) t reply new = ⊥
PlainStep old (Lost peer) t reply new = ⊥

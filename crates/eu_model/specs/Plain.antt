-- What is kept of the lease machine's past
use Rattle.std.specs.Prelude.{ℕ, ◌+◌, Option, Some, None}
use Rattle.std.specs.FinMap.{FinMap, get}
use Rattle.std.specs.Option.{option_map}
use Rattle.eu_base.specs.declared.instances.Instance.{Instance}
use Rattle.eu_base.specs.declared.names.Key.{Key}
use Rattle.eu_base.specs.declared.settings.Config.{Config}
use Rattle.eu_base.specs.declared.statuses.Status.{Status}
use Rattle.eu_base.specs.Values.{name_cmp, key_cmp}
use Rattle.eu_model.specs.declared.views.Listed.{Listed}
use Rattle.eu_model.specs.Machine.{map_values, Kind, Touch, Record, newest, duration, last, since, Machine}
use Rattle.eu_model.specs.Machine.Kind.{Fresh, Renewed}

-- the marks as the renewals of the last whole minute and those since
pub record Plain : Type 0 where
  pub config : Config
  pub leases : FinMap key_cmp Listed
  pub overrides : FinMap name_cmp Status
  pub expected : ℕ
  pub last : ℕ
  pub since : ℕ
  pub previous : Option ℕ

-- a touch as one number, the last update: a renewal counts from one duration later
abbrev pub last_update : Kind → ℕ → ℕ → ℕ
last_update Fresh at d = at
last_update Renewed at d = at + d

abbrev pub update_of : Touch → ℕ → ℕ
update_of touch d = last_update touch.kind touch.at d

-- a record as it is listed
abbrev pub listed : Record → Listed
listed r = record {
  instance = r.instance;
  times = record { registered = r.registered; updated = update_of (newest r.touches) (duration r.instance); up = r.up };
}

-- the plain form of a machine
abbrev pub plain : Machine → Plain
plain s = record {
  config = s.config;
  leases = map_values listed s.leases;
  overrides = s.overrides;
  expected = s.expected;
  last = last s.marks;
  since = since s.marks;
  previous = s.previous;
}

-- the instance that is held under a key
abbrev pub plain_instance : Plain → Key → Option Instance
plain_instance p k = option_map (λ l. l.instance) (get p.leases k)

-- the same, where a key is named
abbrev pub held_under : Plain → Option Key → Option Instance
held_under p None = None
held_under p (Some k) = plain_instance p k

-- What the values of a line may hold: what their types have room for, and what `App::read` and `Rest::new` make
use Rattle.std.specs.Prelude.{◌≡◌, ℕ, ◌<◌, ◌≤◌, ◌^◌, List, length, IfSome}
use Rattle.std.specs.Str.{str_to_ascii_uppercase}
use Rattle.eu_base.specs.Rest.{IsRest}
use Rattle.eu_base.specs.declared.instances.Instance.{Instance}
use Rattle.eu_base.specs.declared.names.Key.{Key}
use Rattle.eu_base.specs.declared.settings.Config.{Config}
use Rattle.eu_base.specs.declared.tasks.Task.{Task}
use Rattle.eu_base.specs.Limits.{last_moment, longest_lease, longest_name}

-- 1 to 255 bytes
abbrev pub IsName : List ℕ → Type 0
IsName name = (0 < length name) × (length name ≤ longest_name)

-- the ASCII letters of an application are capitals
pub record IsKey (k : Key) : Type 0 where
  pub app : IsName k.app
  pub in_capitals : str_to_ascii_uppercase k.app ≡ k.app
  pub id : IsName k.id

abbrev pub IsStamp : ℕ → Type 0
IsStamp stamp = stamp < 2 ^ 63

-- the rest is an object whose numbers are whole
pub record IsInstance (i : Instance) : Type 0 where
  pub key : IsKey i.key
  pub last_dirty : IsStamp i.last_dirty
  pub secs : (1 ≤ i.secs) × (i.secs ≤ longest_lease)
  pub interval : (1 ≤ i.interval) × (i.interval < 2 ^ 31)
  pub rest : IsRest i.rest

pub record IsTask (t : Task) : Type 0 where
  pub key : IsKey t.key
  pub instance : IfSome t.instance IsInstance
  pub queued : t.queued ≤ last_moment

pub record IsConfig (c : Config) : Type 0 where
  pub percent : c.percent ≤ 100
  pub interval : (1 ≤ c.interval) × (c.interval ≤ 3600)
  pub evict_ms : c.evict_ms < 2 ^ 32

-- The moments of a lease, and how long it lasts
use Rattle.std.specs.Prelude.{ℕ, ◌+◌, ◌*◌, ◌≤◌, ◌^◌, Bool, nat_lt, ◌==◌, if◌then◌else◌}
use Rattle.eu_base.specs.declared.instances.Instance.{Instance}
use Rattle.eu_base.specs.Limits.{last_moment, longest_lease}
use Rattle.eu_model.specs.declared.views.Times.{Times}
use Rattle.eu_model.specs.declared.views.Listed.{Listed}

-- when the lease was made, when its instance was first up or 0, and its last update, in milliseconds; its duration in seconds
pub record Term : Type 0 where
  pub registered : ℕ
  pub up : ℕ
  pub updated : ℕ
  pub secs : ℕ

-- a lease that is made now
abbrev pub fresh : ℕ → ℕ → Term
fresh t secs = record { registered = t; up = 0; updated = t; secs = secs }

-- the same lease, renewed now: its last update is one duration from now
abbrev pub renewed : Term → ℕ → Term
renewed a t = record a { updated = t + 1000 * a.secs }

-- the same lease, made anew: the moment at which its instance was first up stays
abbrev pub anew : Term → ℕ → ℕ → Term
anew a t secs = record (fresh t secs) { up = a.up }

-- the same lease, its instance up now
abbrev pub upped : Term → ℕ → Term
upped a t = record a { up = if a.up == 0 then t else a.up }

-- one duration after the last update
abbrev pub deadline : Term → ℕ
deadline a = a.updated + 1000 * a.secs

-- whether it has expired at a moment, if it is granted some extra time
abbrev pub is_expired : Term → ℕ → ℕ → Bool
is_expired a t extra = nat_lt (deadline a + extra) t

abbrev pub times_of : Term → Times
times_of a = record { registered = a.registered; updated = a.updated; up = a.up }

-- an instance with its lease, as it is listed
abbrev pub listed_with : Instance → Term → Listed
listed_with i a = record { instance = i; times = times_of a }

-- no moment is more than a duration past the last one
abbrev pub IsInRange : Term → Type 0
IsInRange a = (a.updated ≤ last_moment + longest_lease * 1000) × (a.secs ≤ longest_lease)

-- The leases as their users see them: a finite map, and how many more can be put without taking memory
use Rattle.std.specs.Prelude.{ℕ, Bool, ◌+◌, ◌==◌, if◌then◌else◌, Option, None, List, map, filter, refl}
use Rattle.std.specs.FinMap.{FinMap, get, insert, entries}
use Rattle.std.specs.Option.{option_map_or}
use Rattle.std.specs.Coded.{Coded, code_by, coded×, coded_ℕ}
use Rattle.eu_base.specs.declared.names.Key.{Key}
use Rattle.eu_base.specs.declared.statuses.Status.{Status}
use Rattle.eu_base.specs.Values.{key_cmp}
use Rattle.eu_model.specs.declared.views.Listed.{Listed}
use Rattle.eu_model.specs.Machine.{duration}
use Rattle.eu_model.specs.Change.{stamped}
use Rattle.eu_model.specs.PlainSteps.{plain_expired}
use Rattle.eu_model.specs.PlainCode.{coded_leases}
use Rattle.eu_model.specs.declared.status_counts.StatusCounts.{StatusCounts}
use Rattle.eu_model.specs.View.{is_of, status_counts}
use Rattle.eu_lease.specs.Term.{Term, listed_with}
use Rattle.eu_store.specs.declared.held.Amendment.{Amendment}
use Rattle.eu_store.specs.declared.held.Amendment.TheVariants.{Renewed, InStatuses, Rejoined, Replaced}

pub record Stored : Type 0 where
  pub held : FinMap key_cmp Listed
  pub room : ℕ

abbrev pub coded_stored : Coded Stored
coded_stored = code_by (FinMap key_cmp Listed × ℕ) (coded× coded_leases coded_ℕ) (λ s. (s.held, s.room)) (λ p. record { held = p.0; room = p.1 }) (λ _. refl)

-- the map with what is held at a key changed, if anything is
abbrev pub changed : (Listed → Listed) → FinMap key_cmp Listed → Key → FinMap key_cmp Listed
changed f m k = option_map_or (λ l. insert m k (f l)) (get m k) m

-- the moments and the duration of a listed lease
abbrev pub term_of : Listed → Term
term_of l = record { registered = l.times.registered; up = l.times.up; updated = l.times.updated; secs = l.instance.secs }

-- the last moment at which a listed lease hasn't expired
abbrev pub deadline_of : Listed → ℕ
deadline_of l = l.times.updated + duration l.instance

-- those of leases in some order
abbrev pub deadlines : List (Key × Listed) → List ℕ
deadlines es = map (λ e. deadline_of e.1) es

-- the lease renewed: its last update is one duration from now
abbrev pub renewed_at : ℕ → Listed → Listed
renewed_at t l = record l { times = record l.times { updated = t + duration l.instance } }

-- its instance up now
abbrev pub upped_at : ℕ → Listed → Listed
upped_at t l = record l { times = record l.times { up = if l.times.up == 0 then t else l.times.up } }

-- the same, where it comes up
abbrev pub marked : Bool → ℕ → Listed → Listed
marked comes_up t l = if comes_up then upped_at t l else l

-- its instance in these statuses, and with a greater stamp, where one is given
abbrev pub in_statuses : Status → Status → Option ℕ → Listed → Listed
in_statuses status overridden last_dirty l =
    record l { instance = stamped last_dirty (record l.instance { status = status; overridden = overridden }) }

-- the instance kept, but for the statuses and the duration, and its lease begun anew
abbrev pub rejoined : Status → Status → Term → Listed → Listed
rejoined status overridden term l = listed_with (record l.instance { status = status; overridden = overridden; secs = term.secs }) term

-- what an amendment leaves of a lease
abbrev pub amended : Amendment → Listed → Listed
amended (Renewed t) l = renewed_at t l
amended (InStatuses t status overridden last_dirty comes_up) l = marked comes_up t (in_statuses status overridden last_dirty (renewed_at t l))
amended (Rejoined status overridden lease) l = rejoined status overridden lease l
amended (Replaced by) l = by

-- the keys of the leases that have expired, in key order
abbrev pub expired_keys : FinMap key_cmp Listed → ℕ → ℕ → List Key
expired_keys m t extra = map (λ e. e.0) (filter (λ e. plain_expired e.1 t extra) (entries m))

-- what is held of an application, or of all where none is given, with its keys and in key order
abbrev pub rows_of : Option (List ℕ) → FinMap key_cmp Listed → List (Key × Listed)
rows_of app m = filter (λ e. is_of app e.0) (entries m)

-- the same without the keys
abbrev pub listing_of : Option (List ℕ) → FinMap key_cmp Listed → List Listed
listing_of app m = map (λ e. e.1) (rows_of app m)

-- how many have each status
abbrev pub counts_of : FinMap key_cmp Listed → StatusCounts
counts_of m = status_counts (listing_of None m)

-- What the JSON of a line says: it is read as it is written, whatever else stands there
use Rattle.std.specs.Prelude.{ℕ, ◌+◌, ◌&&◌, not, List, [], ◌∷◌, length, Option, Result, Ok, Err, nat_lt, if◌then◌else◌, codes, is_some}
use Rattle.std.specs.Str.{str_to_ascii_uppercase}
use Rattle.serde_json.specs.Data.{Data}
use Rattle.serde_json.specs.Find.{as_object}
use Rattle.serde_json.specs.Written.{has_float}
use Rattle.eu_text.specs.Fit.{is_fit}
use Rattle.eu_base.specs.Values.{settings_from}
use Rattle.eu_base.specs.declared.instances.Instance.{Instance}
use Rattle.eu_base.specs.declared.names.Key.{Key}
use Rattle.eu_base.specs.declared.settings.Config.{Config}
use Rattle.eu_base.specs.declared.tasks.Task.{Task}
use Rattle.eu_model.specs.declared.views.Times.{Times}
use Rattle.eu_base.specs.Gives.{◌>>=◌}
use Rattle.eu_base.specs.Limits.{longest_name}
use Rattle.eu_journal_values.specs.Members.{action_in, lease_secs_in, member_in, moment_in, needed, number_in, optional_in, renewal_secs_in, small_in, stamp_in, status_in, text_in, truth_in, unless_null}
use Rattle.eu_journal_values.specs.declared.faults.LineFault.{LineFault}
use Rattle.eu_journal_values.specs.declared.faults.LineFault.TheVariants.{NotALine}

-- ---- values

-- a name has 1 to 255 bytes
abbrev pub name_of : List ℕ → Result (List ℕ) LineFault
name_of [] = Err NotALine
name_of (b ∷ bs) = if nat_lt (length (b ∷ bs)) (longest_name + 1) then Ok (b ∷ bs) else Err NotALine

-- an application's ASCII letters are capitals
unfoldable pub app_of : List ℕ → Result (List ℕ) LineFault
app_of text = do
  name ← name_of text
  Ok (str_to_ascii_uppercase name)

unfoldable pub key_of : Data → Result Key LineFault
key_of d = do
  app ← text_in (codes "app") d >>= app_of
  id ← text_in (codes "id") d >>= name_of
  Ok (record { app = app; id = id })

unfoldable pub key_in : Data → Result Key LineFault
key_in d = member_in (codes "key") d >>= key_of

unfoldable pub config_from : Data → Result Config LineFault
config_from d = do
  evict_ms ← small_in (codes "evict_ms") d
  interval ← small_in (codes "interval") d
  percent ← small_in (codes "percent") d
  preservation ← truth_in (codes "preservation") d
  needed (settings_from preservation percent interval evict_ms)

unfoldable pub times_of : Data → Result Times LineFault
times_of d = do
  registered ← number_in (codes "registered") d
  up ← number_in (codes "up") d
  updated ← number_in (codes "updated") d
  Ok (record { registered = registered; updated = updated; up = up })

-- a rest is an object whose numbers are whole, and fits, as all does that is read of a line
abbrev pub rest_of : Data → Result Data LineFault
rest_of d = if is_some (as_object d) && not (has_float d) && is_fit d then Ok d else Err NotALine

unfoldable pub instance_from : Data → Data → Result Instance LineFault
instance_from rest d = do
  key ← key_in d
  status ← status_in (codes "status") d
  overridden ← status_in (codes "overridden") d
  last_dirty ← stamp_in (codes "dirty") d
  secs ← lease_secs_in (codes "secs") d
  interval ← renewal_secs_in (codes "interval") d
  kept ← rest_of rest
  Ok (record { key = key; status = status; overridden = overridden; last_dirty = last_dirty; secs = secs; interval = interval; rest = kept })

unfoldable pub instance_in : Data → Data → Result Instance LineFault
instance_in rest d = member_in (codes "instance") d >>= instance_from rest

abbrev pub optional_instance_in : Data → Data → Result (Option Instance) LineFault
optional_instance_in rest d = member_in (codes "instance") d >>= unless_null (instance_in rest d)

unfoldable pub task_of : Data → Data → Result Task LineFault
task_of rest d = do
  action ← action_in (codes "action") d
  key ← key_in d
  status ← optional_in status_in (codes "status") d
  instance ← optional_instance_in rest d
  queued ← moment_in (codes "queued") d
  Ok (record { action = action; key = key; status = status; instance = instance; queued = queued })

-- The names of tasks, and the notes of when they were queued
use Rattle.std.specs.Prelude.{◌≡◌, ℕ, ◌+◌, ◌<◌, ◌≤◌, Bool, true, false, not, ◌&&◌, List, map, filter, nat_eq}
use Rattle.std.specs.declared.cmp.Ordering.{Ordering}
use Rattle.std.specs.Ordering.{nat_cmp, ordering_then}
use Rattle.std.specs.List.{AllByRecursion, list_any}
use Rattle.std.specs.BTreeSet.{BTreeSet, Updates, contains}
use Rattle.eu_base.specs.declared.tasks.Task.{Task}
use Rattle.eu_base.specs.Values.{place_of_action, key_cmp, key_eq}
use Rattle.eu_model.specs.Server.{is_old}
use Rattle.eu_base.specs.Limits.{task_age}
use Rattle.eu_audit_queue.specs.declared.name.Name.{Name}
use Rattle.eu_audit_queue.specs.declared.ages.Note.{Note}

abbrev pub name_of : Task → Name
name_of task = record { action = place_of_action task.action; key = task.key }

-- the equality of names, by which a table finds them
abbrev pub names_eq : Name → Name → Bool
names_eq a b = nat_eq a.action b.action && key_eq a.key b.key

-- whether one of the tasks has that name
abbrev pub has_name : Name → List Task → Bool
has_name name tasks = list_any (λ task. names_eq name (name_of task)) tasks

-- the tasks under their names
abbrev pub entries_of : List Task → List (Name × Task)
entries_of tasks = map (λ task. (name_of task, task)) tasks

-- without the task of that name, where it is too old
abbrev pub without_old : ℕ → Name → List Task → List Task
without_old t name tasks = filter (λ task. not (names_eq name (name_of task) && is_old t task)) tasks

abbrev pub note_at : ℕ → Name → Note
note_at queued name = record { queued = queued; name = name }

abbrev pub note_of : Task → Note
note_of task = note_at task.queued (name_of task)

-- notes by their moments, and then by their names
abbrev pub note_cmp : Note → Note → Ordering
note_cmp a b = ordering_then (nat_cmp a.queued b.queued) (ordering_then (nat_cmp a.name.action b.name.action) (key_cmp a.name.key b.name.key))

-- each of the tasks is noted
abbrev pub AreNoted : BTreeSet Note → List Task → Type 0
AreNoted notes tasks = AllByRecursion (λ task. contains note_cmp notes (note_of task) ≡ true) tasks

-- a note of that name went, of a moment from which a task is too old
abbrev pub HasOldOnly : ℕ → Name → BTreeSet Note → BTreeSet Note → Type 0
HasOldOnly t name old new = (queued : ℕ) × (queued + task_age < t) × Updates note_cmp old new (note_at queued name) false

-- no note is of such a moment
abbrev pub HasNoOld : ℕ → BTreeSet Note → Type 0
HasNoOld t notes = (note : Note) → contains note_cmp notes note ≡ true → t ≤ note.queued + task_age

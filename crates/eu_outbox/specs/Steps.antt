-- What the crate's private contracts cite
use Rattle.std.specs.Prelude.{◌≡◌, ℕ, Bool, false, ◌&&◌, ◌||◌, List, [], ◌∷◌, ◌++◌, map, reverse, if◌then◌else◌}
use Rattle.std.specs.Borrow.{Bor}
use Rattle.eu_base.specs.declared.tasks.Task.{Task}
use Rattle.eu_base.specs.declared.tasks.TaskName.{TaskName}
use Rattle.eu_base.specs.Values.{is_action, same_name, key_eq}
use Rattle.eu_model.specs.Server.{waits, is_old}
use Rattle.eu_outbox.specs.declared.waiting.Waiting.{Waiting}

-- the task that an entry stands for
abbrev pub task_of : TaskName × Waiting → Task
task_of e = record { action = e.0.action; key = e.0.key; status = e.1.status; instance = e.1.instance; queued = e.1.queued }

-- the same of an entry that is lent
abbrev pub task_shown : Bor TaskName × Bor Waiting → Task
task_shown e = task_of (e.0.now, e.1.now)

-- the tasks of the older entries, which are kept last to first, and then of the newer
abbrev pub in_line : List (TaskName × Waiting) → List (TaskName × Waiting) → List Task
in_line older newer = reverse (map task_of older) ++ map task_of newer

-- the task has that name
abbrev pub named : TaskName → Task → Bool
named name task = is_action name.action task.action && key_eq name.key task.key

-- the tasks with one more: in the place of the one of its name, else last
abbrev pub placed : Task → List Task → List Task
placed task tasks = if waits task tasks then map (λ other. if same_name task other then task else other) tasks else tasks ++ task ∷ []

-- no two tasks have one name
abbrev pub IsApart : List Task → Type 0
IsApart [] = Unit {0}
IsApart (task ∷ tasks) = (waits task tasks ≡ false) × IsApart tasks

-- a task comes back before the others, unless it is too old, or one of its name waits
abbrev pub gave : ℕ → Task → List Task → List Task
gave t task tasks = if is_old t task || waits task tasks then tasks else task ∷ tasks

-- some come back, the last of them first
abbrev pub gave_all : ℕ → List Task → List Task → List Task
gave_all t [] tasks = tasks
gave_all t (task ∷ more) tasks = gave t task (gave_all t more tasks)

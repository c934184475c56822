-- The queues that are plain forms
use Rattle.std.specs.Prelude.{Bool, true, false, not, ◌&&◌, List, [], ◌∷◌, length, nat_le, Option, Some, None}
use Rattle.std.specs.List.{list_all}
use Rattle.std.specs.Option.{option_map}
use Rattle.eu_base.specs.declared.statuses.Status.{Status}
use Rattle.eu_base.specs.declared.tasks.Action.{Action}
use Rattle.eu_base.specs.declared.tasks.Action.TheVariants.{Register, Heartbeat, Cancel, StatusUpdate, DeleteStatusOverride}
use Rattle.eu_base.specs.declared.tasks.Task.{Task}
use Rattle.eu_base.specs.Values.{key_eq}
use Rattle.eu_model.specs.declared.queues.Queue.{Queue}
use Rattle.eu_model.specs.Server.{waits}
use Rattle.eu_base.specs.Limits.{most_sent, most_waiting}

-- what tasks have by their action: a status or none, and an instance or none, of the task's own key
abbrev pub has_its_parts : Action → Option Status → Option Bool → Bool
has_its_parts Register None (Some of_key) = of_key
has_its_parts Heartbeat None (Some of_key) = of_key
has_its_parts Cancel None None = true
has_its_parts StatusUpdate (Some status) (Some of_key) = of_key
has_its_parts DeleteStatusOverride (Some status) (Some of_key) = of_key
has_its_parts _ _ _ = false

abbrev pub is_plain_task : Task → Bool
is_plain_task task = has_its_parts task.action task.status (option_map (λ instance. key_eq instance.key task.key) task.instance)

-- no two of the tasks have one name
abbrev pub are_apart : List Task → Bool
are_apart [] = true
are_apart (task ∷ tasks) = not (waits task tasks) && are_apart tasks

-- the tasks are plain, and no two have one name
abbrev pub are_plain_tasks : List Task → Bool
are_plain_tasks tasks = list_all is_plain_task tasks && are_apart tasks

-- both lists are plain, and no longer than they may be
abbrev pub is_plain_queue : Queue → Bool
is_plain_queue q =
    nat_le (length q.waiting) most_waiting && nat_le (length q.flight) most_sent && are_plain_tasks q.waiting && are_plain_tasks q.flight

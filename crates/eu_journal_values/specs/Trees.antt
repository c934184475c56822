-- The JSON of the values in a journal's lines
use Rattle.std.specs.Prelude.{ℕ, Option, Some, None, codes}
use Rattle.serde_json.specs.Data.{unsigned, Data, null, boolean, number, string, object, no_members, member}
use Rattle.eu_base.specs.Values.{action_name, status_name}
use Rattle.eu_base.specs.declared.instances.Instance.{Instance}
use Rattle.eu_base.specs.declared.names.Key.{Key}
use Rattle.eu_base.specs.declared.settings.Config.{Config}
use Rattle.eu_base.specs.declared.statuses.Status.{Status}
use Rattle.eu_base.specs.declared.tasks.Task.{Task}
use Rattle.eu_model.specs.declared.views.Times.{Times}

-- ---- values

abbrev pub whole_number : ℕ → Data
whole_number n = number (unsigned n)

-- what isn't there is null
abbrev pub optional : {A : Type 0} → (A → Data) → Option A → Data
optional tree None = null
optional tree (Some x) = tree x

abbrev pub status_tree : Status → Data
status_tree s = string (status_name s)

abbrev pub key_tree : Key → Data
key_tree k = object (member (codes "app") (string k.app) (member (codes "id") (string k.id) no_members))

abbrev pub config_tree : Config → Data
config_tree c = object
    (member (codes "evict_ms") (whole_number c.evict_ms)
    (member (codes "interval") (whole_number c.interval)
    (member (codes "percent") (whole_number c.percent)
    (member (codes "preservation") (boolean c.preservation) no_members))))

abbrev pub times_tree : Times → Data
times_tree t = object
    (member (codes "registered") (whole_number t.registered)
    (member (codes "up") (whole_number t.up)
    (member (codes "updated") (whole_number t.updated) no_members)))

-- An instance but for its rest, which is a member of the line, so that a line nests just one deeper than the rest
abbrev pub instance_tree : Instance → Data
instance_tree i = object
    (member (codes "dirty") (whole_number i.last_dirty)
    (member (codes "interval") (whole_number i.interval)
    (member (codes "key") (key_tree i.key)
    (member (codes "overridden") (status_tree i.overridden)
    (member (codes "secs") (whole_number i.secs)
    (member (codes "status") (status_tree i.status) no_members))))))

abbrev pub rest_tree : Instance → Data
rest_tree i = i.rest

abbrev pub task_tree : Task → Data
task_tree t = object
    (member (codes "action") (string (action_name t.action))
    (member (codes "instance") (optional instance_tree t.instance)
    (member (codes "key") (key_tree t.key)
    (member (codes "queued") (whole_number t.queued)
    (member (codes "status") (optional status_tree t.status) no_members)))))

-- the rest of a task's instance
abbrev pub task_rest : Task → Data
task_rest t = optional rest_tree t.instance

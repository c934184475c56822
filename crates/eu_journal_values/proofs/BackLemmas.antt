-- Values that were written are read as they were
use Rattle.std.proofs.Common.{◌≡◌, ℕ, ◌+◌, ◌<◌, ◌≤◌, ◌^◌, ◌∷◌, [], List, length, map, Option, Some, None, Result, Ok, codes, refl, ap, ◌∙◌, arith}
use Rattle.std.specs.List.{AllByRecursion}
use Rattle.std.specs.Prelude.{IfSome}
use Rattle.std.proofs.lemmas.Bool.{lt-ltb, le-leb}
use Rattle.serde_json.specs.Data.{Data}
use Rattle.serde_json.specs.Find.{get}
use Rattle.serde_json.specs.View.{items_of}
use Rattle.eu_base.specs.Values.{action_name, action_of, settings_from, status_name, status_of}
use Rattle.eu_base.specs.Rest.{IsRest}
use Rattle.eu_base.specs.declared.instances.Instance.{Instance}
use Rattle.eu_base.specs.declared.names.Key.{Key}
use Rattle.eu_base.specs.declared.settings.Config.{Config}
use Rattle.eu_base.specs.declared.statuses.Status.{Status}
use Rattle.eu_base.specs.declared.statuses.Status.TheVariants.{Up, Down, Starting, OutOfService, Unknown}
use Rattle.eu_base.specs.declared.tasks.Action.{Action}
use Rattle.eu_base.specs.declared.tasks.Action.TheVariants.{Register, Heartbeat, Cancel, StatusUpdate, DeleteStatusOverride}
use Rattle.eu_base.specs.declared.tasks.Task.{Task}
use Rattle.eu_base.specs.Gives.{◌>>=◌}
use Rattle.eu_base.specs.Limits.{longest_name}
use Rattle.eu_journal_values.specs.Commands.{IsCode, codes_of}
use Rattle.eu_journal_values.specs.Limits.{IsConfig, IsInstance, IsKey, IsName, IsStamp, IsTask}
use Rattle.eu_journal_values.specs.Trees.{config_tree, instance_tree, key_tree, optional, rest_tree, status_tree, task_rest, task_tree, whole_number}
use Rattle.eu_journal_values.specs.Members.{below_32, lease_secs_of, moment_in, moment_of, needed, optional_in, renewal_secs_of, stamp_in, stamp_of, status_in}
use Rattle.eu_journal_values.specs.Reading.{app_of, config_from, instance_from, instance_in, key_in, key_of, name_of, optional_instance_in, rest_of, task_of}
use Rattle.eu_journal_values.specs.declared.faults.LineFault.{LineFault}

pub step : {A B : Type 0} (r : Result A LineFault) (f : A → Result B LineFault) (x : A) → r ≡ Ok x → (r >>= f) ≡ f x
step r f x is = ap (λ q. q >>= f) is

-- ---- names and numbers

pub status_back : (s : Status) → needed (status_of (status_name s)) ≡ Ok s
status_back Up = refl
status_back Down = refl
status_back Starting = refl
status_back OutOfService = refl
status_back Unknown = refl

pub action_back : (a : Action) → needed (action_of (action_name a)) ≡ Ok a
action_back Register = refl
action_back Heartbeat = refl
action_back Cancel = refl
action_back StatusUpdate = refl
action_back DeleteStatusOverride = refl

pub name_back : (name : List ℕ) → IsName name → name_of name ≡ Ok name
name_back [] is = absurd (omega (arith, is.0))
name_back (b ∷ bs) is = rw (lt-ltb (length (b ∷ bs)) (longest_name + 1) (omega (arith, is.1))) refl

pub small_back : (n : ℕ) → n < 2 ^ 32 → below_32 n ≡ Ok n
small_back n few = rw (lt-ltb n (2 ^ 32) few) refl

lease_secs_back : (n : ℕ) → (1 ≤ n) × (n ≤ 2147483) → (below_32 n >>= lease_secs_of) ≡ Ok n
lease_secs_back n is = rw (small_back n (omega (arith, is.1)), le-leb 1 n is.0, le-leb n 2147483 is.1) refl

renewal_secs_back : (n : ℕ) → (1 ≤ n) × (n < 2 ^ 31) → (below_32 n >>= renewal_secs_of) ≡ Ok n
renewal_secs_back n is = rw (small_back n (omega (arith, is.1)), le-leb 1 n is.0, lt-ltb n (2 ^ 31) is.1) refl

pub moment_back : (n : ℕ) → n ≤ 2 ^ 62 → moment_of n ≡ Ok n
moment_back n few = rw (le-leb n (2 ^ 62) few) refl

-- ---- keys

app_back : (k : Key) → IsKey k → app_of k.app ≡ Ok k.app
unfolding app_of
app_back k is = step (name_of k.app) _ k.app (name_back k.app is.app) ∙ ap Ok is.in_capitals

of_key : (k : Key) → IsKey k → key_of (key_tree k) ≡ Ok k
unfolding key_of
of_key k is = step (app_of k.app) _ k.app (app_back k is) ∙ step (name_of k.id) _ k.id (name_back k.id is.id)

pub key_back : (d : Data) (k : Key) → get (codes "key") d ≡ Some (key_tree k) → IsKey k → key_in d ≡ Ok k
unfolding key_in
key_back d k there is = rw there (of_key k is)

-- ---- what may be null

pub optional_status_back : (name : List ℕ) (d : Data) (s : Option Status) → get name d ≡ Some (optional status_tree s) → optional_in status_in name d ≡ Ok s
optional_status_back name d None there = rw there refl
optional_status_back name d (Some s) there = rw (there, status_back s) refl

pub optional_stamp_back : (name : List ℕ) (d : Data) (s : Option ℕ) → get name d ≡ Some (optional whole_number s) → IfSome s IsStamp → optional_in stamp_in name d ≡ Ok s
optional_stamp_back name d None there few = rw there refl
optional_stamp_back name d (Some n) there few = rw (there, lt-ltb n (2 ^ 63) few) refl

pub optional_moment_back : (name : List ℕ) (d : Data) (m : Option ℕ) → get name d ≡ Some (optional whole_number m) → IfSome m (λ n. n ≤ 2 ^ 62) → optional_in moment_in name d ≡ Ok m
optional_moment_back name d None there few = rw there refl
optional_moment_back name d (Some n) there few = rw (there, le-leb n (2 ^ 62) few) refl

-- ---- settings, instances and tasks

pub config_back : (c : Config) → IsConfig c → config_from (config_tree c) ≡ Ok c
unfolding config_from settings_from
config_back c is =
    step (below_32 c.evict_ms) _ c.evict_ms (small_back c.evict_ms is.evict_ms)
    ∙ step (below_32 c.interval) _ c.interval (small_back c.interval (omega (arith, is.interval.1)))
    ∙ step (below_32 c.percent) _ c.percent (small_back c.percent (omega (arith, is.percent)))
    ∙ rw (le-leb c.percent 100 is.percent, le-leb 1 c.interval is.interval.0, le-leb c.interval 3600 is.interval.1) refl

rest_back : (rest : Data) → IsRest rest → rest_of rest ≡ Ok rest
rest_back rest is = rw (is.members, is.whole, is.fit) refl

from_instance : (i : Instance) → IsInstance i → instance_from i.rest (instance_tree i) ≡ Ok i
unfolding instance_from
from_instance i is =
    step (key_in (instance_tree i)) _ i.key (key_back (instance_tree i) i.key refl is.key)
    ∙ step (needed (status_of (status_name i.status))) _ i.status (status_back i.status)
    ∙ step (needed (status_of (status_name i.overridden))) _ i.overridden (status_back i.overridden)
    ∙ step (stamp_of i.last_dirty) _ i.last_dirty (rw (lt-ltb i.last_dirty (2 ^ 63) is.last_dirty) refl)
    ∙ step (below_32 i.secs >>= lease_secs_of) _ i.secs (lease_secs_back i.secs is.secs)
    ∙ step (below_32 i.interval >>= renewal_secs_of) _ i.interval (renewal_secs_back i.interval is.interval)
    ∙ step (rest_of i.rest) _ i.rest (rest_back i.rest is.rest)

pub instance_back : (d : Data) (i : Instance) → get (codes "instance") d ≡ Some (instance_tree i) → IsInstance i → instance_in i.rest d ≡ Ok i
unfolding instance_in
instance_back d i there is = rw there (from_instance i is)

pub optional_instance_back : (d : Data) (o : Option Instance) → get (codes "instance") d ≡ Some (optional instance_tree o) → IfSome o IsInstance → optional_instance_in (optional rest_tree o) d ≡ Ok o
optional_instance_back d None there is = rw there refl
optional_instance_back d (Some i) there is = rw there (step (instance_in i.rest d) _ i (instance_back d i there is))

pub task_back : (t : Task) → IsTask t → task_of (task_rest t) (task_tree t) ≡ Ok t
unfolding task_of
task_back t is =
    step (needed (action_of (action_name t.action))) _ t.action (action_back t.action)
    ∙ step (key_in (task_tree t)) _ t.key (key_back (task_tree t) t.key refl is.key)
    ∙ step (optional_in status_in (codes "status") (task_tree t)) _ t.status (optional_status_back (codes "status") (task_tree t) t.status refl)
    ∙ step (optional_instance_in (task_rest t) (task_tree t)) _ t.instance (optional_instance_back (task_tree t) t.instance refl is.instance)
    ∙ step (moment_of t.queued) _ t.queued (moment_back t.queued is.queued)

pub codes_back : (cs : List ℕ) → AllByRecursion IsCode cs → codes_of (items_of (map whole_number cs)) ≡ Ok cs
codes_back [] is = refl
codes_back (c ∷ cs) is = rw (lt-ltb c (2 ^ 16) is.0, codes_back cs is.1) refl

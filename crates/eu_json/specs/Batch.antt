-- Batches: their trees, what is read of them, and what they are answered
use Rattle.std.specs.Prelude.{ℕ, ◌+◌, List, map, Option, Some, None, unwrap_or, decimal, codes, true, false, ◌&&◌, [], ◌∷◌, length, Result, Ok, Err, if◌then◌else◌, nat_lt, ok_or, option_and_then, option_map}
use Rattle.serde_json.specs.Data.{Data, string, object, Members, no_members, member, null, boolean, number, array, Items, no_items, item}
use Rattle.eu_base.specs.Values.{action_name, status_name, action_of, status_of}
use Rattle.eu_base.specs.declared.instances.Instance.{Instance}
use Rattle.eu_base.specs.declared.statuses.Status.{Status}
use Rattle.eu_base.specs.declared.tasks.Action.{Action}
use Rattle.eu_base.specs.declared.tasks.Action.TheVariants.{Register, Heartbeat, Cancel, StatusUpdate, DeleteStatusOverride}
use Rattle.eu_base.specs.declared.tasks.Task.{Task}
use Rattle.eu_json.specs.Tree.{alone, instance_tree, list_tree, whole_number, text_at}
use Rattle.eu_json.specs.declared.batch_write.ItemAnswer.{ItemAnswer}
use Rattle.std.specs.Str.{str_to_ascii_uppercase}
use Rattle.serde_json.specs.Events.{items_len}
use Rattle.serde_json.specs.Find.{get, as_array, as_str}
use Rattle.serde_json.specs.Read.{read}
use Rattle.serde_json.specs.Written.{has_float}
use Rattle.eu_base.specs.declared.faults.Fault.{Fault}
use Rattle.eu_base.specs.declared.faults.Fault.TheVariants.{BadBatch}
use Rattle.eu_base.specs.declared.names.Key.{Key}
use Rattle.eu_base.specs.declared.statuses.Status.TheVariants.{Unknown}
use Rattle.eu_base.specs.Limits.{longest_name, most_sent}
use Rattle.eu_model.specs.declared.commands.Command.{Command}
use Rattle.eu_model.specs.declared.commands.Command.TheVariants.{Register, Renew, Cancel, SetStatus, UnsetStatus}
use Rattle.eu_base.specs.Gives.{◌>>=◌, result_map}
use Rattle.eu_json.specs.Reading.{of_member, stamp_in, status_in}
use Rattle.eu_base.specs.declared.tasks.Action.TheVariants as action

-- ---- the JSON that is written for a batch of tasks, and for its answer

-- ---- tasks

-- before these members a registration has the instance as a whole, without moments of a lease
abbrev pub with_info : Action → Instance → Members → Members
with_info Register i ms = member (codes "instanceInfo") (instance_tree i None) ms
with_info Heartbeat i ms = ms
with_info Cancel i ms = ms
with_info StatusUpdate i ms = ms
with_info DeleteStatusOverride i ms = ms

-- what a task says of its instance, where it has one; the status is the task's, or else the instance's
abbrev pub instance_members : Action → Option Status → Option Instance → Members
instance_members action status None = no_members
instance_members action status (Some i) =
    with_info action i
    (member (codes "lastDirtyTimestamp") (string (decimal i.last_dirty))
    (member (codes "overriddenStatus") (string (status_name i.overridden))
    (member (codes "status") (string (status_name (unwrap_or status i.status))) no_members)))

abbrev pub task_tree : Task → Data
task_tree t = object
    (member (codes "action") (string (action_name t.action))
    (member (codes "appName") (string t.key.app)
    (member (codes "id") (string t.key.id) (instance_members t.action t.status t.instance))))

abbrev pub batch_tree : List Task → Data
batch_tree tasks = alone (codes "replicationList") (list_tree (map task_tree tasks))

-- ---- answers

-- the code of an item, and for a conflict the instance that is held, without moments of its lease
abbrev pub entity_tree : ℕ → Option Instance → Data
entity_tree code None = alone (codes "statusCode") (whole_number code)
entity_tree code (Some i) = object
    (member (codes "responseEntity") (instance_tree i None)
    (member (codes "statusCode") (whole_number code) no_members))

abbrev pub answer_tree : ItemAnswer → Data
answer_tree a = entity_tree a.code a.instance

abbrev pub answers_tree : List ItemAnswer → Data
answers_tree answers = alone (codes "responseList") (list_tree (map answer_tree answers))

-- ---- what a JSON text says of a batch of tasks that a peer sends

-- ---- members that an item may leave out

-- a member that is there and isn't null
abbrev pub given : Option Data → Option Data
given None = None
given (Some null) = None
given (Some (boolean b)) = Some (boolean b)
given (Some (number n)) = Some (number n)
given (Some (string s)) = Some (string s)
given (Some (array ds)) = Some (array ds)
given (Some (object ms)) = Some (object ms)

-- a stamp, read as an instance's is, but for one that isn't given
abbrev pub stamp_given : ℕ → Option Data → Result (Option ℕ) Fault
stamp_given moment None = Ok None
stamp_given moment (Some d) = result_map Some (stamp_in moment (Some d))

-- the stamp of an item
abbrev pub last_dirty_in : ℕ → Data → Result (Option ℕ) Fault
last_dirty_in moment i = stamp_given moment (given (get (codes "lastDirtyTimestamp") i))

-- a status, read as an instance's is, but for one that isn't given
abbrev pub status_given : Option Data → Option Status
status_given value = option_map (λ d. status_in Unknown (Some d)) (given value)

-- ---- members that an item needs

-- one of the five statuses, whatever the case of its ASCII letters
abbrev pub status_needed : Option Data → Result Status Fault
status_needed value = ok_or (option_and_then (λ text. status_of (str_to_ascii_uppercase text)) (option_and_then as_str value)) BadBatch

abbrev pub action_in : Data → Result Action Fault
action_in i = ok_or (action_of (text_at (codes "action") i)) BadBatch

-- 1 to 255 bytes
abbrev pub name_within : List ℕ → Result (List ℕ) Fault
name_within text = if nat_lt 0 (length text) && nat_lt (length text) (longest_name + 1) then Ok text else Err BadBatch

-- an application's ASCII letters are capitals
unfoldable pub app_within : List ℕ → Result (List ℕ) Fault
app_within text = do
  name ← name_within text
  Ok (str_to_ascii_uppercase name)

-- the lease of which an item speaks
unfoldable pub key_in : Data → Result Key Fault
key_in i = do
  app ← app_within (text_at (codes "appName") i)
  id ← name_within (text_at (codes "id") i)
  Ok (record { app = app; id = id })

-- the instance of a member: its numbers have to be whole
abbrev pub instance_in : List ℕ → ℕ → Option Data → Result Instance Fault
instance_in app moment value = of_member app moment (unwrap_or (option_map has_float value) false) value

-- ---- items

-- The command of an item, by its action. Each reads the members that it needs, and no others
unfoldable pub command_of : ℕ → Data → Key → Action → Result Command Fault
command_of moment i key action.Register = do
  instance ← instance_in key.app moment (get (codes "instanceInfo") i)
  Ok (Register instance true)
command_of moment i key action.Heartbeat = do
  last_dirty ← last_dirty_in moment i
  Ok (Renew key last_dirty (status_given (get (codes "overriddenStatus") i)) true)
command_of moment i key action.Cancel = Ok (Cancel key true)
command_of moment i key action.StatusUpdate = do
  status ← status_needed (get (codes "status") i)
  last_dirty ← last_dirty_in moment i
  Ok (SetStatus key status last_dirty true)
command_of moment i key action.DeleteStatusOverride = do
  last_dirty ← last_dirty_in moment i
  Ok (UnsetStatus key (status_given (get (codes "status") i)) last_dirty true)

unfoldable pub of_item : ℕ → Data → Result Command Fault
of_item moment i = do
  action ← action_in i
  key ← key_in i
  command_of moment i key action

-- each item's command, in order
abbrev pub of_items : ℕ → Items → Result (List Command) Fault
of_items moment no_items = Ok []
of_items moment (item i is) = do
  command ← of_item moment i
  rest ← of_items moment is
  Ok (command ∷ rest)

-- ---- the whole

-- no more items than a batch holds
abbrev pub few_items : Items → Result Items Fault
few_items is = if nat_lt most_sent (items_len is) then Err BadBatch else Ok is

-- the items of a body: the list that its member replicationList is
abbrev pub items_in : Data → Result Items Fault
items_in body = ok_or (option_and_then as_array (get (codes "replicationList") body)) BadBatch >>= few_items

-- the commands of a body that was read
abbrev pub commands_in : ℕ → Data → Result (List Command) Fault
commands_in moment body = items_in body >>= of_items moment

unfoldable pub of_text : ℕ → List ℕ → Result (List Command) Fault
of_text moment text = do
  body ← ok_or (read text) BadBatch
  items ← items_in body
  of_items moment items

-- any fault of what stands inside is told as BadBatch
abbrev pub or_bad : {A : Type 0} → Result A Fault → Result A Fault
or_bad (Ok x) = Ok x
or_bad (Err f) = Err BadBatch

-- the commands that a text says at a moment, in order, or BadBatch
abbrev pub batch_of : ℕ → List ℕ → Result (List Command) Fault
batch_of moment text = or_bad (of_text moment text)

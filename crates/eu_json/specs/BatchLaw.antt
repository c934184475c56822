-- What is read again of a batch that was written
use Rattle.std.specs.Prelude.{◌≡◌, ℕ, true, ◌<◌, ◌≤◌, ◌^◌, List, length, map, Option, Some, None, Ok, is_some}
use Rattle.std.specs.List.{AllByRecursion}
use Rattle.std.specs.Str.{str_to_ascii_uppercase}
use Rattle.serde_json.specs.Read.{read}
use Rattle.eu_base.specs.declared.instances.Instance.{Instance}
use Rattle.eu_base.specs.declared.names.Key.{Key}
use Rattle.eu_base.specs.declared.statuses.Status.{Status}
use Rattle.eu_base.specs.declared.tasks.Action.{Action}
use Rattle.eu_base.specs.declared.tasks.Action.TheVariants as action
use Rattle.eu_base.specs.declared.tasks.Task.{Task}
use Rattle.eu_model.specs.declared.commands.Command.{Command}
use Rattle.eu_model.specs.declared.commands.Command.TheVariants.{Register, Renew, Cancel, SetStatus, UnsetStatus}
use Rattle.eu_json.specs.Batch.{batch_of, batch_tree}
use Rattle.eu_base.specs.Limits.{most_sent}
use Rattle.eu_base.specs.Limits.{longest_name}
use Rattle.eu_json.specs.Reading.{instance_of}

-- ---- what a task asks its receiver for

-- A command that a peer sends, by the task's action: with its status, and the stamp and the overridden status of its instance.
-- None where one is needed that isn't there
abbrev pub command_by : Action → Key → Option Status → Option Instance → Option Command
command_by action.Register k status (Some i) = Some (Register i true)
command_by action.Heartbeat k status (Some i) = Some (Renew k (Some i.last_dirty) (Some i.overridden) true)
command_by action.Cancel k status instance = Some (Cancel k true)
command_by action.StatusUpdate k (Some status) (Some i) = Some (SetStatus k status (Some i.last_dirty) true)
command_by action.DeleteStatusOverride k status (Some i) = Some (UnsetStatus k status (Some i.last_dirty) true)
command_by _ k _ _ = None

abbrev pub asked_by : Task → Option Command
asked_by t = command_by t.action t.key t.status t.instance

-- ---- which tasks

-- names of 1 to 255 bytes, the ASCII letters of the application in capitals
pub record IsKey (k : Key) : Type 0 where
  pub app_filled : 0 < length k.app
  pub app_short : length k.app ≤ longest_name
  pub in_capitals : str_to_ascii_uppercase k.app ≡ k.app
  pub id_filled : 0 < length k.id
  pub id_short : length k.id ≤ longest_name

-- the instance is what some text says at some moment, and its stamp is below 2^63
abbrev pub IsRead : Instance → Type 0
IsRead i = (i.last_dirty < 2 ^ 63) × (text : List ℕ) × (moment : ℕ) × (instance_of i.key.app moment text ≡ Ok i)

-- there is an instance, with the task's key, and it is one that was read
abbrev pub HasInstance : Key → Option Instance → Type 0
HasInstance k None = ⊥
HasInstance k (Some i) = (i.key ≡ k) × IsRead i

-- just those of status and instance that an action has
abbrev pub HasParts : Action → Key → Option Status → Option Instance → Type 0
HasParts action.Register k status instance = (status ≡ None) × HasInstance k instance
HasParts action.Heartbeat k status instance = (status ≡ None) × HasInstance k instance
HasParts action.Cancel k status instance = (status ≡ None) × (instance ≡ None)
HasParts action.StatusUpdate k status instance = (is_some status ≡ true) × HasInstance k instance
HasParts action.DeleteStatusOverride k status instance = (is_some status ≡ true) × HasInstance k instance

abbrev pub IsSound : Task → Type 0
IsSound t = IsKey t.key × HasParts t.action t.key t.status t.instance

-- no more tasks than a batch holds, each with what its action has
pub record IsBatch (tasks : List Task) : Type 0 where
  pub few : length tasks ≤ most_sent
  pub sound : AllByRecursion IsSound tasks

-- ---- the law

-- each task asks for a command, and at any moment the text says these, in order
abbrev pub SaysTasks : List ℕ → List Task → Type 0
SaysTasks text tasks = (commands : List Command) × (map asked_by tasks ≡ map Some commands) × ((moment : ℕ) → batch_of moment text ≡ Ok commands)

-- each task of a batch asks for a command, and each text whose JSON is the one that is written for them says these
abbrev pub BatchesComeBack : Type 0
BatchesComeBack =
    (tasks : List Task) → IsBatch tasks
    → (commands : List Command) × (map asked_by tasks ≡ map Some commands)
    × ((text : List ℕ) → read text ≡ Some (batch_tree tasks) → (moment : ℕ) → batch_of moment text ≡ Ok commands)

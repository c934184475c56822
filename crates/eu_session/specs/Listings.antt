-- What the listing of all has in each state that a run reaches
use Rattle.std.specs.Prelude.{◌≡◌, ℕ, List, map, Some, None}
use Rattle.std.specs.FinMap.{get}
use Rattle.eu_base.specs.declared.names.Key.{Key}
use Rattle.eu_base.specs.declared.settings.Config.{Config}
use Rattle.eu_model.specs.declared.commands.Entry.{Entry}
use Rattle.eu_model.specs.declared.states.State.{State}
use Rattle.eu_model.specs.Machine.{Machine, Record}
use Rattle.eu_model.specs.Plain.{plain}
use Rattle.eu_model.specs.Server.{Runs, PlainServer, opened, plain_server}
use Rattle.eu_model.specs.State.{server_of_state}
use Rattle.eu_model.specs.View.{listing}
use Rattle.eu_json.specs.Tree.{item_tree, runs}
use Rattle.eu_json.specs.ListingLaw.{applications}

-- Each lease stands under the key of its instance, and the items of a listing of all are those that the listing of each application has by
-- itself
pub record IsByApplication (m : Machine) : Type 0 where
  pub keys : (k : Key) (r : Record) → get m.leases k ≡ Some r → r.instance.key ≡ k
  pub items : map item_tree (runs (listing None m)) ≡ map (λ app. item_tree (listing (Some app) m)) (applications (listing None m))

-- wherever entries lead from this plain form
abbrev pub AreByApplication : PlainServer → Type 0
AreByApplication p = (es : List Entry) (q : PlainServer) → Runs p es q → (m : Machine) → plain m ≡ q.registry → IsByApplication m

-- from an opening, with any settings and any number of peers
abbrev pub OpenedAreByApplication : Type 0
OpenedAreByApplication = (config : Config) (expected peers : ℕ) → AreByApplication (plain_server (opened config expected peers))

-- and from plain data, as the base of a journal has it
abbrev pub ResumedAreByApplication : Type 0
ResumedAreByApplication = (base : State) → AreByApplication (server_of_state base)

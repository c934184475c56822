-- In what order a listing of all stands
use Rattle.std.specs.Prelude.{◌≡◌, true, List, None}
use Rattle.std.specs.FinMap.{is_sorted}
use Rattle.eu_base.specs.Values.{key_cmp}
use Rattle.eu_model.specs.declared.commands.Entry.{Entry}
use Rattle.eu_model.specs.declared.states.State.{State}
use Rattle.eu_model.specs.Machine.{Machine}
use Rattle.eu_model.specs.Plain.{plain}
use Rattle.eu_model.specs.Server.{Runs, PlainServer}
use Rattle.eu_model.specs.State.{server_of_state}
use Rattle.eu_model.specs.View.{by_key, listing}

-- wherever entries lead from plain data, the keys of the instances that are listed strictly ascend: so none is listed twice, and those of
-- one application stand together
abbrev pub ListingsAscend : Type 0
ListingsAscend = (s : State) (es : List Entry) (q : PlainServer) → Runs (server_of_state s) es q
    → (m : Machine) → plain m ≡ q.registry → is_sorted key_cmp (by_key (listing None m)) ≡ true

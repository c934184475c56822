-- The members of an instance that are kept as they came
use Rattle.std.specs.Prelude.{◌≡◌, ℕ, true, false, is_some, List, codes, String, string_bytes}
use Rattle.std.specs.declared.alloc.Global.{Global}
use Rattle.serde_json.specs.Data.{Data, string, object, no_members, member}
use Rattle.serde_json.specs.Find.{as_object}
use Rattle.serde_json.specs.View.{view}
use Rattle.serde_json.specs.Written.{has_float}
use Rattle.serde_json.specs.declared.value.Value.{Value}
use Rattle.eu_text.specs.Fit.{is_fit}

-- an object whose numbers are all whole, which nests no deeper than JSON that is read, and whose members are in order, as in all that is read
pub record IsRest (d : Data) : Type 0 where
  pub members : is_some (as_object d) ≡ true
  pub whole : has_float d ≡ false
  pub fit : is_fit d ≡ true

-- a data center of the client's own
abbrev pub center_of_host : Data
center_of_host = object (member (codes "name") (string (codes "MyOwn")) no_members)

-- host name, an address, and such a data center
abbrev pub rest_of_host : List ℕ → Data
rest_of_host host = object
    (member (codes "dataCenterInfo") center_of_host
    (member (codes "hostName") (string host)
    (member (codes "ipAddr") (string (codes "0.0.0.0")) no_members)))

-- a member: its name and its tree
abbrev pub named_tree : String Global × Value → List ℕ × Data
named_tree m = (string_bytes m.0, view m.1)

-- An instance as text: the registry's own members between the pieces of the rest
use Rattle.std.proofs.Common.{◌≡◌, ℕ, List, [], ◌∷◌, ◌++◌, Option, codes, decimal, refl, sym, ap, ◌∙◌}
use Rattle.json.specs.Print.{quoted, escape_byte}
use Rattle.serde_json.specs.Data.{Data, object, string, Members}
use Rattle.serde_json.specs.Written.{compact_text}
use Rattle.eu_base.specs.Values.{status_name}
use Rattle.eu_base.specs.declared.instances.Instance.{Instance}
use Rattle.eu_model.specs.declared.views.Times.{Times}
use Rattle.eu_text.specs.Object.{own_names}
use Rattle.eu_text.specs.Text.{merged, put_all, IsAscending}
use Rattle.eu_text.proofs.TextLemmas.{text_of_object}
use Rattle.eu_json.specs.Tree.{instance_tree, lease_tree}

pub lead_app : (s : List ℕ) → codes ",\"app\":" ++ s ≡ 44 ∷ (quoted (codes "app") ++ 58 ∷ s)
unfolding escape_byte
lead_app s = refl

pub lead_instanceId : (s : List ℕ) → codes ",\"instanceId\":" ++ s ≡ 44 ∷ (quoted (codes "instanceId") ++ 58 ∷ s)
unfolding escape_byte
lead_instanceId s = refl

pub lead_lastDirtyTimestamp : (s : List ℕ) → codes ",\"lastDirtyTimestamp\":" ++ s ≡ 44 ∷ (quoted (codes "lastDirtyTimestamp") ++ 58 ∷ s)
unfolding escape_byte
lead_lastDirtyTimestamp s = refl

pub lead_leaseInfo : (s : List ℕ) → codes ",\"leaseInfo\":" ++ s ≡ 44 ∷ (quoted (codes "leaseInfo") ++ 58 ∷ s)
unfolding escape_byte
lead_leaseInfo s = refl

pub lead_overriddenStatus : (s : List ℕ) → codes ",\"overriddenStatus\":" ++ s ≡ 44 ∷ (quoted (codes "overriddenStatus") ++ 58 ∷ s)
unfolding escape_byte
lead_overriddenStatus s = refl

pub lead_status : (s : List ℕ) → codes ",\"status\":" ++ s ≡ 44 ∷ (quoted (codes "status") ++ 58 ∷ s)
unfolding escape_byte
lead_status s = refl

-- ---- the own members, each with those behind it

abbrev pub own5 : Instance → List (List ℕ × Data)
own5 i = (codes "status", string (status_name i.status)) ∷ []

abbrev pub own4 : Instance → List (List ℕ × Data)
own4 i = (codes "overriddenStatus", string (status_name i.overridden)) ∷ own5 i

abbrev pub own3 : Instance → Option Times → List (List ℕ × Data)
own3 i times = (codes "leaseInfo", lease_tree i times) ∷ own4 i

abbrev pub own2 : Instance → Option Times → List (List ℕ × Data)
own2 i times = (codes "lastDirtyTimestamp", string (decimal i.last_dirty)) ∷ own3 i times

abbrev pub own1 : Instance → Option Times → List (List ℕ × Data)
own1 i times = (codes "instanceId", string i.key.id) ∷ own2 i times

abbrev pub own : Instance → Option Times → List (List ℕ × Data)
own i times = (codes "app", string i.key.app) ∷ own1 i times

ascending : IsAscending own_names
ascending = (refl, (refl, (refl, (refl, (refl, (tt, tt))))))

tree_is : (i : Instance) (times : Option Times) (ms : Members) (rest : Data) → rest ≡ object ms → instance_tree (record i { rest = rest }) times ≡ object (put_all (own i times) ms)
tree_is i times ms rest is = ap (λ r. instance_tree (record i { rest = r }) times) is

pub written : (i : Instance) (times : Option Times) (ms : Members) (out0 out1 : List ℕ) → i.rest ≡ object ms
    → out1 ≡ out0 ++ (merged (own i times) ms ++ 125 ∷ [])
    → (s : List ℕ) × (out1 ≡ out0 ++ 44 ∷ s) × (compact_text (instance_tree i times) ≡ 123 ∷ s)
written i times ms out0 out1 is wrote = (_, wrote ∙ ap (λ s. out0 ++ s) (sym (text_of_object (codes "app", string i.key.app) (own1 i times) ms ascending)), ap compact_text (tree_is i times ms i.rest is))

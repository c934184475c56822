-- An object that is kept as its text
use Rattle.std.specs.Prelude.{◌≡◌, ℕ, true, List, [], ◌∷◌, ◌++◌, drop, codes, unwrap_or}
use Rattle.serde_json.specs.Data.{Data, null, object, Members}
use Rattle.serde_json.specs.Read.{read}
use Rattle.eu_text.specs.declared.cut.Cut.{Cut}
use Rattle.eu_text.specs.declared.cut.Cuts.{Cuts}
use Rattle.eu_text.specs.Fit.{is_fit}
use Rattle.eu_text.specs.Text.{led, cuts_of}

-- the registry's own members of an instance, in the order of their names
abbrev pub own_names : List (List ℕ)
own_names = codes "app" ∷ codes "instanceId" ∷ codes "lastDirtyTimestamp" ∷ codes "leaseInfo" ∷ codes "overriddenStatus" ∷ codes "status" ∷ []

abbrev pub cut_list : Cuts → List Cut
cut_list c = c.app ∷ c.instance_id ∷ c.last_dirty ∷ c.lease ∷ c.overridden ∷ c.status ∷ []

-- the text of these members, each with a comma before it, and where the own names cut it
pub record IsTextOf (text : List ℕ) (cuts : Cuts) (ms : Members) : Type 0 where
  pub is : text ≡ led ms
  pub at : cut_list cuts ≡ cuts_of own_names ms

-- the object whose members have that text: it is read with brackets, and without its first comma
unfoldable pub tree_of_text : List ℕ → Data
tree_of_text text = unwrap_or (read (123 ∷ (drop 1 text ++ 125 ∷ []))) null

-- it is the text of the members of some object that fits, and is read as that
pub record IsObjectText (text : List ℕ) (cuts : Cuts) : Type 0 where
  pub members : Members
  pub is : IsTextOf text cuts members
  pub fit : is_fit (object members) ≡ true
  pub reads : tree_of_text text ≡ object members

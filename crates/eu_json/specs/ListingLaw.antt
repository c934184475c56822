-- What a listing of all has: an item for each application that holds a lease
use Rattle.std.specs.Prelude.{◌≡◌, ℕ, true, List, map, filter, codes}
use Rattle.std.specs.List.{flat_map}
use Rattle.std.specs.FinMap.{FinMap, from_entries, is_sorted, keys}
use Rattle.serde_json.specs.Data.{Data, string, object, no_members, member}
use Rattle.eu_base.specs.Values.{name_cmp, name_eq, key_cmp}
use Rattle.eu_model.specs.declared.views.Listed.{Listed}
use Rattle.eu_model.specs.View.{by_key}
use Rattle.eu_json.specs.Tree.{list_tree, listed_tree, item_tree, runs}

-- ---- the items of a listing of all, application by application

-- a lease for each application: a map in the order of names
abbrev pub by_application : List Listed → FinMap name_cmp Listed
by_application held = from_entries (map (λ l. (l.instance.key.app, l)) held)

-- the applications that hold a lease: each once, in the order of names
abbrev pub applications : List Listed → List (List ℕ)
applications held = keys (by_application held)

-- the leases of an application, in their order
abbrev pub leases_of : List Listed → List ℕ → List Listed
leases_of held app = filter (λ l. name_eq l.instance.key.app app) held

-- the item of an application: all its leases, and its name
abbrev pub item_of : List Listed → List ℕ → Data
item_of held app = object
    (member (codes "instance") (list_tree (map listed_tree (leases_of held app)))
    (member (codes "name") (string app) no_members))

-- ---- leases in key order

-- the keys of the instances strictly ascend
abbrev pub IsInKeyOrder : List Listed → Type 0
IsInKeyOrder held = is_sorted key_cmp (by_key held) ≡ true

-- Of leases in key order a listing has one item for each application that holds a lease, in the order of names, with all leases of it
abbrev pub ItemsAreOfApplications : Type 0
ItemsAreOfApplications = (held : List Listed) → IsInKeyOrder held → map item_tree (runs held) ≡ map (item_of held) (applications held)

-- And each lease is in one item: the leases of these applications, one application after the other, are all
abbrev pub LeasesAreOfApplications : Type 0
LeasesAreOfApplications = (held : List Listed) → IsInKeyOrder held → flat_map (leases_of held) (applications held) ≡ held

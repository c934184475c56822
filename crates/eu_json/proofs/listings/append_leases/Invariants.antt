use Rattle.std.proofs.Common.{◌≡◌, ◌++◌, ◌∷◌, false, not, drop, map}
use Rattle.serde_json.specs.View.{items_of}
use Rattle.serde_json.specs.Written.{items_text}
use Rattle.eu_json.specs.Tree.{listed_tree}
use Rattle.eu_json.proofs.listings.append_leases.Given as goal

abbrev pub invariant-loop-listed : goal.invariant-loop-listed
invariant-loop-listed l =
    l.out.items ++ items_text (not l.first) (items_of (map listed_tree (drop l.listed-index l.held))) ≡ l.fn.out.items ++ 91 ∷ items_text false (items_of (map listed_tree l.held))

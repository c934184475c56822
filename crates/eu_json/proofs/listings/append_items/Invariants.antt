use Rattle.std.proofs.Common.{◌≡◌, ◌++◌, ◌∷◌, false, not, length, map}
use Rattle.serde_json.specs.View.{items_of}
use Rattle.serde_json.specs.Written.{items_text}
use Rattle.eu_json.specs.Tree.{item_tree, runs}
use Rattle.eu_json.proofs.listings.append_items.Given as goal

abbrev pub invariant-loop-rest : goal.invariant-loop-rest
invariant-loop-rest l =
    l.out.items ++ items_text (not l.first) (items_of (map item_tree (runs l.rest))) ≡ l.fn.out.items ++ 91 ∷ items_text false (items_of (map item_tree (runs l.held)))

abbrev pub decreases-loop-rest : goal.decreases-loop-rest
decreases-loop-rest l = length l.rest

use Rattle.std.proofs.Common.{◌≡◌, drop}
use Rattle.serde_json.specs.View.{items_view}
use Rattle.eu_json.specs.Batch.{of_items}
use Rattle.eu_json.specs.Parts.{InfosFit, stands}
use Rattle.eu_json.proofs.batch.judge_items.Given as goal

-- nothing is wrong with what was passed, so that what is left decides
abbrev pub invariant-loop-item : goal.invariant-loop-item
invariant-loop-item l =
    InfosFit (items_view (drop l.item-index l.items))
    × (stands (of_items l.moment (items_view (drop l.item-index l.items))) ≡ stands (of_items l.moment (items_view l.items)))

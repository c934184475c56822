use Rattle.std.proofs.Common.{◌≡◌, map}
use Rattle.std.specs.Vec.Iter.{into_iter_items}
use Rattle.serde_json.specs.View.{items_of, items_view, view}
use Rattle.eu_json.specs.Batch.{of_items}
use Rattle.eu_json.specs.Parts.{InfosFit}
use Rattle.eu_json.proofs.ItemLemmas.{onto}
use Rattle.eu_json.proofs.batch.of_items.Given as goal

-- what was read, and what is left, make the whole
abbrev pub invariant-loop-item : goal.invariant-loop-item
invariant-loop-item l = record {
  next : (goal.iterator-loop-item).can_next l.item-iterator;
  finite : (goal.iterator-loop-item).is_finite l.item-iterator;
  fit : InfosFit (items_of (map view (into_iter_items l.item-iterator)));
  read : onto l.commands.items (of_items l.moment (items_of (map view (into_iter_items l.item-iterator)))) ≡ of_items l.moment (items_view l.fn.items.items);
}

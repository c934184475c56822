use Rattle.std.proofs.Common.{List, map, sym, ap, ◌∙◌, subst}
use Rattle.std.specs.Vec.Iter.{into_iter_items}
use Rattle.serde_json.specs.View.{items_of, view}
use Rattle.serde_json.specs.declared.value.Value.{Value}
use Rattle.eu_json.specs.Batch.{of_items}
use Rattle.eu_json.specs.Parts.{InfosFit}
use Rattle.eu_json.proofs.ItemLemmas.{item_read, onto}
use Rattle.eu_json.proofs.batch.of_items.Goals as goal

pub of_item-requires : goal.of_item-requires
of_item-requires c = (subst (λ (vs : List Value). InfosFit (items_of (map view vs))) c.in-Some.ensures.steps.0 c.loop-item.invariant.fit).0

pub loop-item-preserved : goal.loop-item-preserved
loop-item-preserved c =
    let moment = c.args.moment in
    let before = c.loop-item.commands.items in
    let command = c.in_ok-of_item.field-0 in
    let left = into_iter_items c.next.new.self in
    record {
      next = tt;
      finite = tt;
      fit = (subst (λ (vs : List Value). InfosFit (items_of (map view vs))) c.in-Some.ensures.steps.0 c.loop-item.invariant.fit).1;
      read =
          ap (λ l. onto l (of_items moment (items_of (map view left)))) c.in_ok-push.ensures.items
          ∙ sym (item_read moment before command (view c.in-Some.item) (items_of (map view left)) c.in_ok-of_item.ensures)
          ∙ ap (λ vs. onto before (of_items moment (items_of (map view vs)))) (sym c.in-Some.ensures.steps.0)
          ∙ c.loop-item.invariant.read;
    }

use Rattle.std.proofs.Common.{◌≡◌, drop, None, option_map, string_bytes}
use Rattle.serde_json.specs.View.{items_view, members_view}
use Rattle.eu_text.specs.Fit.{items_fit, members_fit}
use Rattle.eu_text.proofs.fit.+fits.Given as goal

-- what is left fits exactly where the whole does
abbrev pub invariant-items_fit-loop-item : goal.invariant-items_fit-loop-item
invariant-items_fit-loop-item l = items_fit l.depth (items_view (drop l.item-index l.item-items)) ≡ items_fit l.depth (items_view l.item-items)

abbrev pub invariant-members_fit-loop-name : goal.invariant-members_fit-loop-name
invariant-members_fit-loop-name l = record {
  can : (goal.iterator-members_fit-loop-name).can_next l.name-iterator;
  finite : (goal.iterator-members_fit-loop-name).is_finite l.name-iterator;
  left : members_fit l.depth (option_map (λ (k : _). string_bytes k.now) l.last) (members_view l.name-iterator) ≡ members_fit l.depth None (members_view l.members.entries);
}

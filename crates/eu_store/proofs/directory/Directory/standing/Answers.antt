use Rattle.std.proofs.Common.{◌≡◌, ◌<◌, get_or, length, slice_get, subst, sym, ap, ◌∙◌}
use Rattle.std.specs.List.{prefix_len}
use Rattle.std.specs.List.Sorted.{IsPartitionedBy}
use Rattle.std.specs.Map.{keys_of}
use Rattle.std.specs.Map.Iter.{deref_pair}
use Rattle.std.specs.Option.{option_map}
use Rattle.eu_store.specs.Order.{at_place, is_below, keys_held}
use Rattle.eu_store.proofs.OrderLemmas.{below_holds_first, parted, stands}
use Rattle.eu_store.proofs.PlaceLemmas.{at_prefix}
use Rattle.eu_store.proofs.directory.Directory.standing.Goals as goal

pub count_within-requires : goal.count_within-requires
count_within-requires c =
    let es = c.args.table.now.entries in
    let k = c.unwrap.result.0.now in
    subst (IsPartitionedBy (at_place (is_below k) es)) (sym c.deref.ensures.value) (parted (is_below k) es c.args.self.now.places.items c.requires.directory.0 (below_holds_first k es))

-- where the key stands
found : (c : goal.After-count_within) → (c.count_within.result < length c.args.self.now.places.items) × (get_or c.args.self.now.places.items c.count_within.result 0 ≡ c.args.place)
found c =
    let es = c.args.table.now.entries in
    let k = c.unwrap.result.0.now in
    let ps = c.args.self.now.places.items in
    let order = c.requires.directory.0 in
    let there = ap (λ l. slice_get l c.args.place) (sym c.as_slice.ensures.entries) ∙ sym c.get_index.ensures.entry ∙ ap (option_map deref_pair) c.unwrap.ensures in
    let stand = stands es ps c.args.place k c.unwrap.result.1.now c.as_slice.ensures.unique order there in
    let at = c.count_within.ensures.value ∙ ap (prefix_len (at_place (is_below k) es)) c.deref.ensures.value ∙ at_prefix (is_below k) (keys_of es) ps (keys_held es) order in
    (subst (λ n. n < length ps) (sym at) stand.0, ap (λ n. get_or ps n 0) at ∙ stand.1)

pub returns-clause-bound : goal.returns-clause-bound
returns-clause-bound c = (found c).0

pub returns-clause-value : goal.returns-clause-value
returns-clause-value c = (found c).1

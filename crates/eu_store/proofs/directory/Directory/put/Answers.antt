use Rattle.std.proofs.Common.{cond, is_ok, subst, sym, ap, ◌∙◌}
use Rattle.std.specs.List as lists
use Rattle.std.specs.List.{prefix_len}
use Rattle.std.specs.List.Sorted.{IsPartitionedBy}
use Rattle.std.specs.Map.{keys_of}
use Rattle.eu_store.specs.Order.{at_place, is_below, keys_held}
use Rattle.eu_store.proofs.OrderLemmas.{below_holds_first, parted}
use Rattle.eu_store.proofs.PlaceLemmas.{at_prefix}
use Rattle.eu_store.proofs.directory.Directory.put.Goals as goal

pub count_within-at-requires : goal.count_within-at-requires
count_within-at-requires c =
    let es = c.args.table.now.entries in
    let k = c.args.key.now in
    subst (IsPartitionedBy (at_place (is_below k) es)) (sym c.deref.ensures.value) (parted (is_below k) es c.args.self.now.places.items c.requires.directory.0 (below_holds_first k es))

pub returns-clause-places : goal.returns-clause-places
returns-clause-places c =
    let es = c.args.table.now.entries in
    let k = c.args.key.now in
    let ps = c.args.self.now.places.items in
    let at = c.count_within-at.ensures.value ∙ ap (prefix_len (at_place (is_below k) es)) c.deref.ensures.value ∙ at_prefix (is_below k) (keys_of es) ps (keys_held es) c.requires.directory.0 in
    ap (λ v. v.items) c.forget.ensures.places ∙ c.insert.ensures.items ∙ ap (λ r. cond (is_ok r) (lists.insert ps c.count_within-at.result c.len.result) ps) c.unwrap.ensures
    ∙ (λ i. lists.insert ps (at i) (c.len.ensures.len i))

use Rattle.std.proofs.Common.{◌≡◌, ◌≤◌, ◌+◌, ◌∷◌, [], ◌++◌, List, length, map, take, drop, ap, sym, ◌∙◌, arith}
use Rattle.std.proofs.lemmas.List.{take_more, drop_more, map_push, length-map, length-take-le}
use Rattle.eu_base.specs.declared.names.Key.{Key}
use Rattle.eu_model.specs.Machine.{without}
use Rattle.eu_store.proofs.TableLemmas.{by_name}
use Rattle.eu_store.specs.Removed.{with_values}
use Rattle.eu_store.proofs.UndoLemmas.{removed_more}
use Rattle.eu_eviction.proofs.eviction.remove_all.Goals as goal

pub loop-key-preserved : goal.loop-key-preserved
loop-key-preserved c =
    let at = c.loop-key.key-index in
    let keys = c.args.keys.now in
    let k = c.key-item.result in
    let so_far = c.loop-key.invariant in
    let before : List Key = take at keys in
    let after : List Key = drop (at + 1) keys in
    let through : take (at + 1) keys ≡ before ++ k ∷ [] = take_more keys at k c.loop-key-test.true ∙ ap (λ y. before ++ y ∷ []) (sym c.key-item.is) in
    let from : drop at keys ≡ k ∷ after = drop_more keys at k c.loop-key-test.true ∙ ap (λ y. y ∷ after) (sym c.key-item.is) in
    let ids = map (λ (x : Key). x.id) in
    let short : at ≤ length keys = omega (arith, c.loop-key-test.true) in
    let long = length-take-le at keys short in
    let through_ids : ids (take (at + 1) keys) ≡ ids before ++ k.id ∷ [] = ap ids through ∙ map_push (λ (x : Key). x.id) before k in
    record {
      overrides = ap (λ m. without m (ids after)) c.take.ensures.rows ∙ sym (ap (λ y. without c.loop-key.overrides.rows (ids y)) from) ∙ so_far.overrides;
      rows_back = (λ i. with_values (c.take.ensures.rows i) (through_ids i) (c.push_reserved.ensures.items i))
          ∙ removed_more by_name c.loop-key.overrides.rows c.args.overrides.now.rows (ids before) c.loop-key.rows.items k.id c.take.result (so_far.rows_long ∙ sym (length-map before (λ (x : Key). x.id) ∙ long)) c.take.ensures.before so_far.rows_back;
      rows_long = omega (arith, ap length c.push_reserved.ensures.items, so_far.rows_long);
      rows_room = omega (arith, c.push_reserved.ensures.capacity, so_far.rows_room);
    }

use Rattle.std.proofs.Common.{◌≡◌, ◌≤◌, ◌<◌, ◌+◌, ◌∷◌, [], ◌++◌, List, length, take, drop, refl, sym, ap, subst, ◌∙◌, arith}
use Rattle.std.proofs.lemmas.Bool.Decides.{nat_tests}
use Rattle.std.proofs.lemmas.List.{take_more, drop_more, length-take-le}
use Rattle.eu_base.specs.declared.names.Key.{Key}
use Rattle.eu_model.specs.Machine.{without}
use Rattle.eu_store.specs.Order.{at_places, map_by}
use Rattle.eu_store.specs.Removed.{with_values}
use Rattle.eu_store.specs.Sweep.{AreBelow}
use Rattle.eu_store.proofs.PlaceLemmas.{at_length}
use Rattle.eu_store.proofs.SweepLemmas.{at_below, at_counted, parts_of, places_below, places_same}
use Rattle.eu_store.proofs.TableLemmas.{by_key, len_at}
use Rattle.eu_store.proofs.UndoLemmas.{removed_more}
use Rattle.eu_store.proofs.sweep.take_all.Goals as goal

pub loop-key-init : goal.loop-key-init
loop-key-init c =
    let es = c.args.table.now.entries in
    let ps = c.room.inside.origins.items in
    let some : 0 < length c.args.keys.now = grind (arith, nat_tests, c.is_empty.ensures, c.if-is_empty.false) in
    let most : length es ≤ length ps = omega (arith, c.requires.room.1 some, len_at by_key es c.len.ensures.unique, ap (λ s. s.leases) c.room.view_is) in
    let from = ap (at_places es) (c.truncate.ensures.items ∙ ap (λ n. take n ps) c.len.ensures.len) ∙ at_counted es ps most c.room.invariant.1 in
    record {
      left = refl;
      back = refl;
      held_long = ap length c.room.invariant.0;
      held_room = omega (arith, c.requires.room.0, ap (λ s. s.keys) c.room.view_is);
      deadlines = c.requires.index;
      counts = c.requires.counts;
      parts = parts_of es c.args.directory.now c.requires.ordered;
      places = refl;
      origins = from;
      long = at_length es c.truncate.new.self.items es from;
      few = omega arith;
      spare = omega arith;
      room = omega arith;
    }

pub loop-key-preserved : goal.loop-key-preserved
loop-key-preserved c =
    let at = c.loop-key.key-index in
    let keys = c.args.keys.now in
    let k = c.key-item.result in
    let was = c.loop-key.invariant in
    let es = c.args.table.now.entries in
    let m = map_by c.loop-key.table.entries in
    let before : List Key = take at keys in
    let after : List Key = drop (at + 1) keys in
    let through : take (at + 1) keys ≡ before ++ k ∷ [] = take_more keys at k c.loop-key-test.true ∙ ap (λ y. before ++ y ∷ []) (sym c.key-item.is) in
    let from : drop at keys ≡ k ∷ after = drop_more keys at k c.loop-key-test.true ∙ ap (λ y. y ∷ after) (sym c.key-item.is) in
    let short : at ≤ length keys = omega (arith, c.loop-key-test.true) in
    record {
      left = ap (λ n. without n after) c.take_one-taken.ensures.held ∙ sym (ap (without m) from) ∙ was.left;
      back = (λ i. with_values (c.take_one-taken.ensures.held i) (through i) (c.push_reserved.ensures.items i))
          ∙ removed_more by_key m (map_by es) before c.loop-key.held.items k c.take_one-taken.result (was.held_long ∙ sym (length-take-le at keys short)) c.take_one-taken.ensures.before was.back;
      held_long = omega (arith, ap length c.push_reserved.ensures.items, was.held_long);
      held_room = omega (arith, c.push_reserved.ensures.capacity, was.held_room);
      deadlines = c.take_one-taken.ensures.index;
      counts = c.take_one-taken.ensures.counts;
      parts = c.take_one-taken.ensures.parts;
      places = c.take_one-taken.ensures.places ∙ was.places;
      origins = c.take_one-taken.ensures.origins es was.origins;
      long = c.take_one-taken.ensures.long;
      few = omega (arith, c.take_one-taken.ensures.few, was.few);
      spare = omega (arith, c.take_one-taken.ensures.spare, was.spare);
      room = omega (arith, c.take_one-taken.ensures.room, was.room);
    }

-- the places of before are within the notes
pub renumber-requires-clause-origins : goal.renumber-requires-clause-origins
renumber-requires-clause-origins c =
    let es = c.args.table.now.entries in
    let some : 0 < length c.args.keys.now = grind (arith, nat_tests, c.is_empty.ensures, c.if-is_empty.false) in
    let most : length es ≤ length c.deref_mut.result.now = omega (arith, c.requires.room.1 some, len_at by_key es c.len.ensures.unique, ap (λ s. s.leases) c.room.view_is, c.room.invariant.2, ap length c.deref_mut.ensures.value) in
    subst (AreBelow (length c.deref_mut.result.now)) (sym c.deref.ensures.value) (at_below es c.loop-key.origins.items c.loop-key.table.entries (length c.deref_mut.result.now) c.loop-key.invariant.origins most)

pub renumber-requires-clause-places : goal.renumber-requires-clause-places
renumber-requires-clause-places c =
    let es = c.args.table.now.entries in
    let some : 0 < length c.args.keys.now = grind (arith, nat_tests, c.is_empty.ensures, c.if-is_empty.false) in
    let most : length es ≤ length c.deref_mut.result.now = omega (arith, c.requires.room.1 some, len_at by_key es c.len.ensures.unique, ap (λ s. s.leases) c.room.view_is, c.room.invariant.2, ap length c.deref_mut.ensures.value) in
    places_below es c.loop-key.directory (length c.deref_mut.result.now) (places_same es c.loop-key.directory c.args.directory.now c.loop-key.invariant.places c.requires.ordered) most

pub returns-clause-ordered : goal.returns-clause-ordered
returns-clause-ordered c =
    let es = c.args.table.now.entries in
    let fs = c.loop-key.table.entries in
    let was = c.loop-key.invariant in
    let from = ap (at_places es) c.deref.ensures.value ∙ was.origins in
    c.renumber.ensures.ordered es fs c.len.ensures.unique from (places_same es c.loop-key.directory c.args.directory.now was.places c.requires.ordered) was.parts

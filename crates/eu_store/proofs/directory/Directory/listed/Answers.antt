use Rattle.std.proofs.Common.{filter, length, map, slice_get, sym, ap, ◌∙◌, Some, List, arith}
use Rattle.std.specs.FinMap as map
use Rattle.std.specs.Map.{keys_of, values_of}
use Rattle.std.specs.Map.Iter.{deref_pair}
use Rattle.std.specs.Option.{option_copied, option_map}
use Rattle.std.proofs.lemmas.List.{take_all, length-map}
use Rattle.std.proofs.lemmas.Option.{slice_get-map}
use Rattle.eu_base.specs.declared.names.Key.{Key}
use Rattle.eu_model.specs.View.{is_of}
use Rattle.eu_model.specs.declared.views.Listed.{Listed}
use Rattle.eu_store.specs.Order.{at_places, keys_held}
use Rattle.eu_store.specs.Stored.{listing_of}
use Rattle.eu_store.proofs.OrderLemmas.{listing_at}
use Rattle.eu_store.proofs.PlaceLemmas.{at_one_more, same_all, place_within}
use Rattle.eu_store.proofs.directory.Directory.listed.Goals as goal

pub unwrap-requires : goal.unwrap-requires
unwrap-requires c =
    let es = c.args.table.now.entries in
    let within = place_within (keys_of es) c.part-places.result.now (filter (is_of (option_copied c.args.app)) (keys_held es)) c.loop-place.place-index c.part-places.ensures c.loop-place-test.true in
    c.get_index.ensures.found.1 (omega (arith, within, length-map es (λ e. e.0), ap length c.as_slice-entries.ensures.entries))

pub loop-place-preserved : goal.loop-place-preserved
loop-place-preserved c =
    let es = c.as_slice-entries.result in
    let ps = c.part-places.result.now in
    let i = c.loop-place.place-index in
    let entry = sym c.get_index.ensures.entry ∙ ap (option_map deref_pair) c.unwrap.ensures in
    let there = ap (slice_get (values_of es)) (sym c.from.ensures) ∙ slice_get-map (λ e. e.1) es c.from.result ∙ ap (option_map (λ (e : Key × Listed). e.1)) entry ∙ ap (λ (l : Listed). Some l) (sym c.in_ok-listed.ensures) in
    ap (map (λ (l : Listed). Some l)) c.in_ok-push.ensures.items ∙ at_one_more (values_of es) ps c.loop-place.leases.items i c.in_ok-listed.field-0 c.loop-place-test.true c.loop-place.invariant there

pub returns : goal.returns
returns c =
    let es = c.args.table.now.entries in
    let ps = c.part-places.result.now in
    let app = option_copied c.args.app in
    same_all c.loop-place.leases.items (listing_of app (map.from_entries es)) (
    c.loop-place.invariant
    ∙ ap (at_places (values_of c.as_slice-entries.result)) (take_all c.loop-place.place-index ps c.loop-place-test.false)
    ∙ ap (λ (l : List (Key × Listed)). at_places (values_of l) ps) c.as_slice-entries.ensures.entries
    ∙ listing_at app es ps c.as_slice-entries.ensures.unique c.part-places.ensures)

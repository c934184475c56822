use Rattle.std.proofs.Common.{List, filter, get_or, length, slice_get, sym, ap, ◌∙◌, arith}
use Rattle.std.specs.Map.{keys_of, values_of}
use Rattle.std.specs.Map.Iter.{deref_pair}
use Rattle.std.specs.Option.{option_copied, option_map}
use Rattle.std.proofs.lemmas.List.{length-map}
use Rattle.std.proofs.lemmas.Option.{slice_get-map}
use Rattle.eu_base.specs.declared.names.Key.{Key}
use Rattle.eu_model.specs.View.{is_of}
use Rattle.eu_model.specs.declared.views.Listed.{Listed}
use Rattle.eu_store.specs.Brief.{IsShort}
use Rattle.eu_store.specs.Order.{keys_held}
use Rattle.eu_store.proofs.OrderLemmas.{brief_at, one_more_holds}
use Rattle.eu_store.proofs.PlaceLemmas.{place_within}
use Rattle.eu_store.proofs.directory.Directory.is_brief.Goals as goal

pub unwrap-requires : goal.unwrap-requires
unwrap-requires c =
    let es = c.args.table.now.entries in
    let within = place_within (keys_of es) c.part-places.result.now (filter (is_of (option_copied c.args.app)) (keys_held es)) c.loop-place.place-index c.part-places.ensures c.loop-place-test.true in
    c.get_index.ensures.found.1 (omega (arith, within, length-map es (λ e. e.0), ap length c.as_slice-entries.ensures.entries))

pub loop-place-preserved : goal.loop-place-preserved
loop-place-preserved c =
    let es = c.as_slice-entries.result in
    let entry = sym c.get_index.ensures.entry ∙ ap (option_map deref_pair) c.unwrap.ensures in
    let there = ap (slice_get (values_of es)) (sym c.from.ensures) ∙ slice_get-map (λ e. e.1) es c.from.result ∙ ap (option_map (λ (e : Key × Listed). e.1)) entry in
    one_more_holds (λ (l : Listed). IsShort c.args.short l.instance) (values_of es) c.part-places.result.now c.loop-place.place-index c.unwrap.result.1.now c.loop-place.invariant there (c.is_short.ensures c.if-not-is_short.false)

pub returns : goal.returns
returns c is =
    let es = c.args.table.now.entries in
    let ps = c.part-places.result.now in
    brief_at c.args.few c.args.short (option_copied c.args.app) es ps c.as_slice-entries.ensures.unique c.part-places.ensures (omega (arith))
    (λ j l low at. c.loop-place.invariant j l (omega (arith, low, c.loop-place-test.false)) (ap (λ (fs : List (Key × Listed)). slice_get (values_of fs) (get_or ps j 0)) c.as_slice-entries.ensures.entries ∙ at))

use Rattle.std.proofs.Common.{refl, sym, ap, ◌∙◌, map, Some}
use Rattle.std.specs.Map.{keys_of}
use Rattle.std.specs.Option.{option_map}
use Rattle.std.proofs.lemmas.List.{take_all}
use Rattle.std.proofs.lemmas.Option.{slice_get-map}
use Rattle.eu_base.specs.declared.names.Key.{Key}
use Rattle.eu_model.specs.declared.views.Listed.{Listed}
use Rattle.eu_store.specs.Order.{at_places}
use Rattle.eu_store.proofs.DirectoryLemmas.{all_in_order, one_more_key, place_of, row_there, some_of}
use Rattle.eu_store.proofs.IndexLemmas.{taken_at}
use Rattle.eu_store.proofs.MapLemmas.{at_some}
use Rattle.eu_store.proofs.directory.Directory.of.Goals as goal

pub unwrap-place-requires : goal.unwrap-place-requires
unwrap-place-requires c =
    let es = c.args.table.now.entries in
    some_of _ c.get_full.result c.row-item.result.1.now
    (c.get_full.ensures.value ∙ row_there es c.deref-row-items.result.now c.loop-row.row-index c.row-item.result (ap (map _) c.deref-row-items.ensures.value ∙ c.in_ok-rows.ensures) c.loop-row-test.true c.row-item.is)

pub loop-row-preserved : goal.loop-row-preserved
loop-row-preserved c =
    let es = c.args.table.now.entries in
    let p = c.unwrap-place.result in
    let entry = at_some _ c.get_full.ensures.entry c.unwrap-place.ensures in
    let found = place_of c.get_full.result p _ c.get_full.ensures.index c.unwrap-place.ensures in
    let taken = taken_at c.row-item.result.0.now es p.0 (p.1.now, p.2.now) _ found refl (sym entry) in
    let here = slice_get-map (λ e. e.0) es p.0 ∙ ap (option_map (λ (e : Key × Listed). e.0)) entry ∙ ap (λ (k : Key). Some k) taken.0 in
    ap (at_places (keys_of es)) c.in_ok-push.ensures.items ∙ one_more_key es c.loop-row.places.items c.deref-row-items.result.now c.loop-row.row-index p.0 c.row-item.result c.loop-row-test.true c.row-item.is here c.loop-row.invariant

pub returns : goal.returns
returns c =
    let es = c.args.table.now.entries in
    let rows = c.deref-row-items.result.now in
    let all = ap (λ rs. map Some (map (λ r. r.0.now) rs)) (take_all c.loop-row.row-index rows c.loop-row-test.false) in (
      all_in_order es c.loop-row.places.items rows (ap (map _) c.deref-row-items.ensures.value ∙ c.in_ok-rows.ensures) (c.loop-row.invariant ∙ all),
      λ n p at. absurd (c.in_ok-no_parts.ensures n p at),
    )

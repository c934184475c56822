use Rattle.std.proofs.Common.{◌<◌, Some, length, map as all, sym, ap, ◌∙◌, arith}
use Rattle.std.specs.FinMap as map
use Rattle.eu_base.specs.declared.names.Key.{Key}
use Rattle.eu_model.specs.declared.views.Listed.{Listed}
use Rattle.eu_store.specs.Order.{at_places, map_by}
use Rattle.eu_store.proofs.IndexLemmas.{taken_at}
use Rattle.eu_store.proofs.MapLemmas.{none_from_is_some}
use Rattle.eu_store.proofs.SweepLemmas.{at_swapped}
use Rattle.eu_store.proofs.TableLemmas.{by_key, get_at, remove_absent}
use Rattle.eu_store.proofs.sweep.take_one.Goals as goal

pub returns-in_err-place-clause-before : goal.returns-in_err-place-clause-before
returns-in_err-place-clause-before c = c.from_residual.ensures ∙ sym (get_at by_key c.args.table.now.entries c.args.key.now ∙ none_from_is_some _ (sym c.in_err-place.ensures.found))

pub returns-in_err-place-clause-held : goal.returns-in_err-place-clause-held
returns-in_err-place-clause-held c =
    let es = c.args.table.now.entries in
    let k = c.args.key.now in
    sym (remove_absent by_key (map_by es) k (get_at by_key es k ∙ none_from_is_some _ (sym c.in_err-place.ensures.found)))

pub returns-clause-before : goal.returns-clause-before
returns-clause-before c =
    let es = c.args.table.now.entries in
    let k = c.args.key.now in
    let taken = taken_at k es c.in_ok-place.place c.take_out-key.result _ (sym c.in_ok-place.ensures.index) c.in_ok-place.ensures.value (sym c.take_out-key.ensures.entry) in
    taken.1 ∙ sym (get_at by_key es k)

pub returns-clause-held : goal.returns-clause-held
returns-clause-held c =
    let es = c.args.table.now.entries in
    let k = c.args.key.now in
    let taken = taken_at k es c.in_ok-place.place c.take_out-key.result _ (sym c.in_ok-place.ensures.index) c.in_ok-place.ensures.value (sym c.take_out-key.ensures.entry) in
    c.take_out-key.ensures.held ∙ ap (map.remove (map_by es)) taken.0

pub returns-clause-origins : goal.returns-clause-origins
returns-clause-origins c es h =
    let fs = c.args.table.now.entries in
    let some : 0 < length fs = omega (arith, c.in_ok-place.ensures.within) in
    ap (at_places es) c.swap_remove.ensures.items ∙ at_swapped es c.args.origins.now.items fs c.in_ok-place.place c.swap_remove.result c.take_out-key.result some h
    ∙ ap (all (λ (e : Key × Listed). Some e)) (sym c.take_out-key.ensures.entries)

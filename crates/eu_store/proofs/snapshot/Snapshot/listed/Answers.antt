use Rattle.std.proofs.Common.{◌++◌, List, take, Option, slice_index, ap, ◌∙◌}
use Rattle.std.specs.Option.{option_map}
use Rattle.eu_model.specs.declared.views.Listed.{Listed}
use Rattle.eu_store.specs.Order.{undated_at, undated_in, lasting, snapped}
use Rattle.eu_store.proofs.DirectoryLemmas.{found, one_more_snapped}
use Rattle.eu_store.proofs.snapshot.Snapshot.listed.Goals as goal

pub loop-place-preserved : goal.loop-place-preserved
loop-place-preserved c =
    let places = c.deref-place-items.result.now in
    let n = c.loop-place.place-index in
    let parts = c.self.inside.parts.items in
    let until = c.self.inside.deadlines in
    c.in_ok-append.ensures ∙ ap (λ (ls : List Listed). ls ++ found c.in_ok-found.found) c.loop-place.invariant
    ∙ ap (λ (o : Option Listed). snapped (undated_in parts) until (take n places) ++ found o)
    (c.in_ok-found.ensures ∙ (λ j. option_map (lasting (slice_index until (c.from.ensures j))) (undated_at (undated_in (c.deref.ensures.value j)) (c.from.ensures j))))
    ∙ one_more_snapped (undated_in parts) until places n c.loop-place-test.true

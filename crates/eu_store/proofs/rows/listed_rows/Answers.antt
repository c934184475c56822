use Rattle.std.proofs.Common.{map, ap, ◌∙◌}
use Rattle.std.proofs.lemmas.List.{take_all}
use Rattle.eu_store.proofs.RowLemmas.{values_shown}
use Rattle.eu_store.proofs.rows.listed_rows.Goals as goal

pub returns : goal.returns
returns c =
    c.loop-row.invariant
    ∙ ap (map (λ r. r.1.now)) (take_all c.loop-row.row-index c.deref-row-items.result.now c.loop-row-test.false ∙ c.deref-row-items.ensures.value)
    ∙ values_shown c.in_ok-rows.rows.items
    ∙ ap (map (λ e. e.1)) c.in_ok-rows.ensures

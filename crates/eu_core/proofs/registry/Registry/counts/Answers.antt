use Rattle.std.proofs.Common.{ap, ◌∙◌}
use Rattle.eu_model.specs.declared.views.Counts.{Counts}
use Rattle.eu_model.specs.Machine.{is_permitted}
use Rattle.eu_model.proofs.OpeningLemmas.{plain_counts, counts_shown}
use Rattle.eu_core.proofs.registry.Registry.counts.Goals as goal

pub returns : goal.returns
returns c s e =
    let i = c.self.inside in
    let permitted = c.permitted.ensures ∙ ap (is_permitted i.threshold.config i.threshold.expected) c.last-last.ensures in
    (λ x. let k : Counts = record { held = c.len.ensures.value x; expected = c.expected.ensures.value x; threshold = c.value.ensures x; last = c.last-last.ensures x; permitted = permitted x; preservation = (c.config.ensures x).preservation } in k)
    ∙ ap plain_counts c.self.view_is
    ∙ counts_shown c.args.self.now s e

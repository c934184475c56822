use Rattle.std.proofs.Common.{refl, rules, ◌∙◌}
use Rattle.std.proofs.lemmas.Fn.{filter_same}
use Rattle.eu_shared.proofs.TrimLemmas.{from_first_filters}
use Rattle.eu_shared.proofs.pass.trim_log.Goals as goal

pub returns-then-is_stale : goal.returns-then-is_stale
returns-then-is_stale c =
    record { log = filter_same _ _ _ (λ x b f' k. search rules) _ _ c.retain.ensures.filtered ∙ from_first_filters c.args.first c.args.log.now.items; stale = refl }

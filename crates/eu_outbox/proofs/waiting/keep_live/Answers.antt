use Rattle.std.proofs.Common.{ap, ◌∙◌, map, not, rules}
use Rattle.indexmap.proofs.CallerLemmas.{filter-RetainsPairs}
use Rattle.eu_model.specs.Server.{is_old}
use Rattle.eu_outbox.specs.Steps.{task_of}
use Rattle.eu_outbox.proofs.NameLemmas.{map-filter}
use Rattle.eu_outbox.proofs.waiting.keep_live.Goals as goal

pub returns : goal.returns
returns c =
    ap (map task_of) (filter-RetainsPairs _ (λ e. not (is_old c.args.moment (task_of e))) _ (λ k v b w g h. search rules) _ _ c.retain.ensures.filtered)
    ∙ map-filter task_of (λ task. not (is_old c.args.moment task)) c.args.entries.now.entries

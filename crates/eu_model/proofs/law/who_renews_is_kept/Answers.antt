use Rattle.eu_model.proofs.EvictionRunLemmas as pass
use Rattle.eu_model.proofs.law.who_renews_is_kept.Goals as goal

pub returns : goal.returns
returns c = pass.who_renews_is_kept

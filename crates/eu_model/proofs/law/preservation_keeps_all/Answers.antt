use Rattle.eu_model.proofs.EvictionRunLemmas as pass
use Rattle.eu_model.proofs.law.preservation_keeps_all.Goals as goal

pub returns : goal.returns
returns c = pass.preservation_keeps_all

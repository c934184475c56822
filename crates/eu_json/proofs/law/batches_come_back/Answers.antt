use Rattle.eu_json.proofs.BatchLemmas as lemmas
use Rattle.eu_json.proofs.law.batches_come_back.Goals as goal

pub returns : goal.returns
returns c = lemmas.batches_come_back

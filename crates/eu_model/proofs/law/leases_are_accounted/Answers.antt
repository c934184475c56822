use Rattle.eu_model.proofs.HeldLemmas as held
use Rattle.eu_model.proofs.law.leases_are_accounted.Goals as goal

pub returns : goal.returns
returns c = held.leases_are_accounted

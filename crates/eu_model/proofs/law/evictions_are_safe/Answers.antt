use Rattle.eu_model.proofs.EvictionLemmas.{victims_have_expired, evictions_keep_the_share, preservation_forbids}
use Rattle.eu_model.proofs.law.evictions_are_safe.Goals as goal

pub returns : goal.returns
returns c = record { expired = victims_have_expired; share = evictions_keep_the_share; preservation = preservation_forbids }

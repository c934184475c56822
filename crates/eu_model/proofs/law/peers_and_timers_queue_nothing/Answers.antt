use Rattle.eu_model.proofs.ServerLemmas.{nothing_is_queued}
use Rattle.eu_model.proofs.law.peers_and_timers_queue_nothing.Goals as goal

pub returns : goal.returns
returns c = nothing_is_queued

use Rattle.eu_model.proofs.EvictionRunLemmas.{evictions_are_never_refused, evictions_take_their_number}
use Rattle.eu_model.proofs.SilentLemmas as silent
use Rattle.eu_model.proofs.law.who_is_silent_goes.Goals as goal

pub returns : goal.returns
returns c = record { possible = evictions_are_never_refused; number = evictions_take_their_number; silent = silent.who_is_silent_goes }

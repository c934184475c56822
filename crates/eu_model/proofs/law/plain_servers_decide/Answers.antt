use Rattle.eu_model.proofs.AccountLemmas.{raise_server}
use Rattle.eu_model.proofs.ServerLemmas.{servers_step_alike, servers_fault_alike}
use Rattle.eu_model.proofs.law.plain_servers_decide.Goals as goal

pub returns : goal.returns
returns c = record { steps = servers_step_alike; faults = servers_fault_alike; each = raise_server }

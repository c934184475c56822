use Rattle.eu_workers.proofs.TurnLemmas.{asked_by_take}
use Rattle.eu_workers.proofs.sessions.take_turn_of.Goals as goal

pub returns-clause-asked : goal.returns-clause-asked
returns-clause-asked g c = asked_by_take c.policy_of-policy.result.now (λ s. s.pass) _ _ _ _ _ _ _ _ c.take_turn.ensures.turn

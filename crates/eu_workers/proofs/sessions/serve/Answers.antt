use Rattle.eu_workers.proofs.TurnLemmas.{asked_more}
use Rattle.eu_workers.proofs.sessions.serve.Goals as goal

pub returns-in-Over : goal.returns-in-Over
returns-in-Over g c = asked_more _ _ _ c.loop-turn.invariant.asked c.step.ensures.asked

pub returns-in-Over-2 : goal.returns-in-Over-2
returns-in-Over-2 g c = asked_more _ _ _ c.loop-turn.invariant.asked c.step.ensures.asked

pub loop-turn-preserved : goal.loop-turn-preserved
loop-turn-preserved g c = record { asked = asked_more _ _ _ c.loop-turn.invariant.asked c.step.ensures.asked; sent = c.step.ensures.sent c.in-Answered.is }

pub returns-in-Some-rests : goal.returns-in-Some-rests
returns-in-Some-rests g c = asked_more _ _ _ c.loop-turn.invariant.asked c.step.ensures.asked

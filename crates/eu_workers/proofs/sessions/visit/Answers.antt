use Rattle.eu_workers.proofs.TurnLemmas.{trims}
use Rattle.eu_workers.proofs.sessions.visit.Goals as goal

pub returns-then-eq : goal.returns-then-eq
returns-then-eq g c = (_, c.serve-left.ensures, trims _ _ c.trim.ensures)

pub returns-else-eq : goal.returns-else-eq
returns-else-eq g c = (_, c.serve-left.ensures, trims _ _ c.trim.ensures)

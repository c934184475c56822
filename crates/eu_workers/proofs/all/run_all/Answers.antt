use Rattle.eu_workers.proofs.AllLemmas.{ended}
use Rattle.eu_workers.proofs.all.run_all.Goals as goal

pub returns : goal.returns
returns g c i d below = ended _ _ _ _ (c.number_all.ensures.each i d below) (c.run_each.ensures i d (rw (← c.number_all.ensures.len) at below))

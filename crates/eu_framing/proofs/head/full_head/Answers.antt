use Rattle.eu_framing.proofs.HeadLemmas.{head_long}
use Rattle.eu_framing.proofs.head.full_head.Goals as goal

pub returns-in-None-clause-fault : goal.returns-in-None-clause-fault
returns-in-None-clause-fault c = λ more. head_long c.args.buffer.now more c.requires.full (rw c.in-None.is at c.in_ok-head.ensures.none)

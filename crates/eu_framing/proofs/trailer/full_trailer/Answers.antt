use Rattle.eu_framing.proofs.TrailerLemmas.{trailer_long}
use Rattle.eu_framing.proofs.trailer.full_trailer.Goals as goal

pub returns-in-None-clause-fault : goal.returns-in-None-clause-fault
returns-in-None-clause-fault c = λ more.
    trailer_long c.args.room c.args.start c.args.buffer.now more c.long_fault.result c.requires.full
    (rw (c.window.ensures, c.min.ensures) at c.long_fault.ensures)
    (rw c.in-None.is at c.in_ok-len.ensures.none)
    (rw c.in-None.is at c.in_ok-len.ensures.may)

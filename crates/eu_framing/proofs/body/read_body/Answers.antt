use Rattle.eu_framing.proofs.WalkLemmas.{on_err, stands_more}
use Rattle.eu_framing.proofs.body.read_body.Goals as goal

pub returns-in-Chunked-clause-fault : goal.returns-in-Chunked-clause-fault
returns-in-Chunked-clause-fault g c = rw c.in-Chunked.is c.read_chunked.ensures.fault

pub returns-in-Sized-clause-stands : goal.returns-in-Sized-clause-stands
returns-in-Sized-clause-stands g c =
    on_err c.read_sized.result (stands_more c.args.start c.args.walk.now c.read_sized.ensures.longer c.requires.stands)

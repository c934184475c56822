use Rattle.eu_framing.proofs.WalkLemmas.{stands_new}
use Rattle.eu_framing.proofs.request.begin.Goals as goal

pub returns-in-Some-2-clause-found : goal.returns-in-Some-2-clause-found
returns-in-Some-2-clause-found g c =
    let found = rw c.in-Some-2.is at c.in_ok-head-in-None.ensures.found in
    let within = rw c.in-Some-2.is at c.in_ok-head-in-None.ensures.within in
    let walk = c.new-walk.ensures in
    record { head = found; framing = within; walk = stands_new c.in-Some-2.head.len c.next_head.new.buffer.items c.new-walk.result found.3 walk.at walk.seen walk.line walk.body }

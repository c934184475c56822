use Rattle.std.proofs.Common.{arith}
use Rattle.eu_book.proofs.peers.Peers.open.Goals as goal

pub invariant_of-result : goal.invariant_of-result
invariant_of-result c = omega (arith, c.loop.outboxes.ok.0, c.loop.invariant.1, c.loop.auto.counter-end, c.requires)

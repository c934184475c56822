use Rattle.std.proofs.Common.{◌≡◌, take}
use Rattle.eu_book.specs.Peers.{queues_of}
use Rattle.eu_book.proofs.peers.Peers.queues.Given as goal

-- the queues so far
abbrev pub invariant-loop-outbox : goal.invariant-loop-outbox
invariant-loop-outbox l = l.queues.items ≡ take l.outbox-index (queues_of l.outbox-items)

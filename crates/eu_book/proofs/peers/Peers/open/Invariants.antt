use Rattle.std.proofs.Common.{◌≡◌, replicate, vec_len}
use Rattle.eu_model.specs.Server.{idle}
use Rattle.eu_book.specs.Peers.{queues_of}
use Rattle.eu_book.proofs.peers.Peers.open.Given as goal

-- so many so far
abbrev pub invariant-loop : goal.invariant-loop
invariant-loop l = (queues_of l.outboxes.items ≡ replicate l.counter idle) × (vec_len l.outboxes ≡ l.counter)

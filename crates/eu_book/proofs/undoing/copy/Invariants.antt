use Rattle.std.proofs.Common.{◌≡◌, take}
use Rattle.eu_book.proofs.undoing.copy.Given as goal

-- the queues so far
abbrev pub invariant-loop-queue : goal.invariant-loop-queue
invariant-loop-queue l = l.copies.items ≡ take l.queue-index l.queue-items

use Rattle.std.proofs.Common.{◌≡◌, replicate, take}
use Rattle.eu_model.specs.Server.{live}
use Rattle.eu_outbox.proofs.outbox.batches.Given as goal

-- so many so far
abbrev pub invariant-loop : goal.invariant-loop
invariant-loop l = l.batches.items ≡ replicate l.counter (take 250 (live l.moment l.waiting.tasks))

use Rattle.std.proofs.Common.{◌≡◌, take}
use Rattle.eu_outbox.proofs.waiting.Line.tasks.Given as goal

-- the tasks so far
abbrev pub invariant-loop-place : goal.invariant-loop-place
invariant-loop-place l = l.tasks.items ≡ take l.place l.self.tasks

use Rattle.std.proofs.Common.{◌≡◌, drop}
use Rattle.eu_model.specs.Server.{live}
use Rattle.eu_outbox.proofs.waiting.Line.any_live.Given as goal

-- those that were passed are too old
abbrev pub invariant-loop-place : goal.invariant-loop-place
invariant-loop-place l = live l.moment (drop l.place l.self.tasks) ≡ live l.moment l.self.tasks

use Rattle.std.proofs.Common.{◌≡◌, ◌≤◌, length}
use Rattle.eu_model.specs.Server.{bounded}
use Rattle.eu_outbox.proofs.waiting.Line.bound.Given as goal

-- as many are left as at first
abbrev pub invariant-loop-self : goal.invariant-loop-self
invariant-loop-self l = record { same : bounded l.self.tasks ≡ bounded l.fn.self.tasks; room : l.fn.self.room ≤ l.self.room }

abbrev pub decreases-loop-self : goal.decreases-loop-self
decreases-loop-self l = length l.self.tasks

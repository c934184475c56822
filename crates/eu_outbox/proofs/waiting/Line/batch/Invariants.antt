use Rattle.std.proofs.Common.{◌≡◌, ◌-◌, ◌++◌, drop, take, vec_len}
use Rattle.eu_model.specs.Server.{live}
use Rattle.eu_outbox.proofs.waiting.Line.batch.Given as goal

-- what is left leads to the whole
abbrev pub invariant-loop-place : goal.invariant-loop-place
invariant-loop-place l = l.batch.items ++ take (250 - vec_len l.batch) (live l.moment (drop l.place l.self.tasks)) ≡ take 250 (live l.moment l.self.tasks)

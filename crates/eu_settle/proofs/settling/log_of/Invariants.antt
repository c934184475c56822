use Rattle.std.proofs.Common.{◌≡◌, length}
use Rattle.eu_settle.specs.Settled.{log_at}
use Rattle.eu_settle.proofs.settling.log_of.Given as goal

abbrev pub invariant-loop-one : goal.invariant-loop-one
invariant-loop-one l = log_at l.pass l.logs ≡ log_at l.pass l.fn.logs

abbrev pub decreases-loop-one : goal.decreases-loop-one
decreases-loop-one l = length l.logs

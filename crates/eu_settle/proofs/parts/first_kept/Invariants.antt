use Rattle.std.proofs.Common.{◌≡◌, ◌≤◌, length}
use Rattle.eu_settle.specs.Settled.{from_first}
use Rattle.eu_settle.proofs.parts.first_kept.Given as goal

abbrev pub invariant-loop-one : goal.invariant-loop-one
invariant-loop-one l = (from_first l.first l.log ≡ from_first l.first l.fn.log) × (length l.log ≤ length l.fn.log)

abbrev pub decreases-loop-one : goal.decreases-loop-one
decreases-loop-one l = length l.log

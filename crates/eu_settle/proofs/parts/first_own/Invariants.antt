use Rattle.std.proofs.Common.{◌≡◌, ◌≤◌, length}
use Rattle.eu_settle.specs.Settled.{part_of}
use Rattle.eu_settle.proofs.parts.first_own.Given as goal

abbrev pub invariant-loop-one : goal.invariant-loop-one
invariant-loop-one l = (part_of l.pass l.entries ≡ part_of l.pass l.fn.entries) × (length l.entries ≤ length l.fn.entries)

abbrev pub decreases-loop-one : goal.decreases-loop-one
decreases-loop-one l = length l.entries

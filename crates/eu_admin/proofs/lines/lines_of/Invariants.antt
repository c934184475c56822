use Rattle.std.proofs.Common.{◌≡◌, ◌++◌, length, map}
use Rattle.eu_admin.specs.Lines.{line_of, runs}
use Rattle.eu_admin.proofs.lines.lines_of.Given as goal

abbrev pub invariant-loop-rest : goal.invariant-loop-rest
invariant-loop-rest l = l.lines.items ++ map line_of (runs l.rest) ≡ map line_of (runs l.listing)

abbrev pub decreases-loop-rest : goal.decreases-loop-rest
decreases-loop-rest l = length l.rest

use Rattle.std.proofs.Common.{◌≡◌, take}
use Rattle.eu_model.specs.View.{status_counts}
use Rattle.eu_model.proofs.status_counts.StatusCounts.of.Given as goal

-- the counts of the leases so far
abbrev pub invariant-loop-listed : goal.invariant-loop-listed
invariant-loop-listed l = l.counts ≡ status_counts (take l.listed-index l.held)

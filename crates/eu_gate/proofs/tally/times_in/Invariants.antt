use Rattle.std.proofs.Common.{◌≡◌, drop}
use Rattle.eu_gate.specs.Tallies as spec
use Rattle.eu_gate.proofs.tally.times_in.Given as goal

-- it is told as often in what is left as in all
abbrev pub invariant-loop-count : goal.invariant-loop-count
invariant-loop-count l = spec.times_in l.number (drop l.count-index l.counts) ≡ spec.times_in l.number l.counts

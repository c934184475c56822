use Rattle.std.proofs.Common.{◌≡◌, take, drop, map}
use Rattle.eu_gate.specs.Tallies as spec
use Rattle.eu_gate.proofs.tally.add_to.Given as goal

-- those so far have what the others count, and the rest as they were
abbrev pub invariant-loop-count : goal.invariant-loop-count
invariant-loop-count l = record {
  so_far : take l.count-index l.counts ≡ map (spec.with_those_of l.others) (take l.count-index l.fn.counts);
  left : drop l.count-index l.counts ≡ drop l.count-index l.fn.counts;
}

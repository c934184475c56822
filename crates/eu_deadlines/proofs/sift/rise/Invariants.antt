use Rattle.std.proofs.Common.{◌≡◌, ◌<◌, length}
use Rattle.eu_deadlines.specs.Heap.{RisesFrom, AreLinked, by_position}
use Rattle.eu_deadlines.proofs.sift.rise.Given as goal

abbrev pub invariant-loop-at : goal.invariant-loop-at
invariant-loop-at l = record {
  within : l.at < length l.positions;
  order : RisesFrom l.deadlines l.at;
  linked : AreLinked l.positions l.places;
  same : by_position l.deadlines l.places ≡ by_position l.fn.deadlines l.fn.places;
}

abbrev pub decreases-loop-at : goal.decreases-loop-at
decreases-loop-at l = l.at

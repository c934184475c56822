use Rattle.std.proofs.Common.{◌+◌, ◌*◌, ◌-◌, ◌≤◌, length}
use Rattle.eu_deadlines.proofs.WalkLemmas.{Walked}
use Rattle.eu_deadlines.proofs.walk.earlier_places.Given as goal

abbrev pub invariant-loop-next : goal.invariant-loop-next
invariant-loop-next l = record {
  reached : l.next ≤ length l.found.items;
  walked : Walked l.heap l.limit l.found.items l.next;
  counted : l.readings ≤ l.fn.readings + 2 * l.next + 1;
  read : l.fn.readings + length l.found.items ≤ l.readings;
}

abbrev pub decreases-loop-next : goal.decreases-loop-next
decreases-loop-next l = length l.heap - l.next

use Rattle.std.proofs.Common.{◌≡◌, ◌≤◌, ◌++◌, length}
use Rattle.eu_peer.specs.Turns.{Adopts}
use Rattle.eu_peer.proofs.turn.adopt_all.Given as goal

abbrev pub invariant-loop-instance : goal.invariant-loop-instance
invariant-loop-instance g l = record {
  few : l.adopted ≤ length l.yielded;
  whole : l.fn.instances.items ≡ l.yielded ++ l.instance-iterator.rest.items;
  made : Adopts g.D.Desk.asked l.moment l.fn.desk l.yielded l.adopted l.desk;
}

use Rattle.std.proofs.Common.{◌≡◌}
use Rattle.eu_workers.specs.Returned.{TakesTurns}
use Rattle.eu_workers.proofs.replicator.run_replicator.Given as goal

abbrev pub invariant-loop-turn : goal.invariant-loop-turn
invariant-loop-turn g l = record {
  takes : TakesTurns l._turn l.fn.pass l.seat.pass l.ended;
  each : l.ended.turns ≡ l._turn;
}

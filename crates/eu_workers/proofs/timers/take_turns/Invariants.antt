use Rattle.std.proofs.Common.{◌≡◌}
use Rattle.eu_workers.specs.Timers.{command_of, AsksBy}
use Rattle.eu_workers.proofs.timers.take_turns.Given as goal

abbrev pub invariant-loop-turn : goal.invariant-loop-turn
invariant-loop-turn g l = record {
  asks : AsksBy g.H.Chooser.asks l.fn.chooser (command_of l.timer) l._turn (g.A.Asker.pass l.fn.asker) (g.A.Asker.pass l.asker) l.ended l.chooser;
  each : l.ended.turns ≡ l._turn;
}

use Rattle.std.proofs.Common.{◌∙◌, ◌+◌, ap}
use Rattle.eu_workers.specs.Timers.{command_of}
use Rattle.eu_workers.proofs.TimerLemmas.{draws_none, draws_more, draws_within}
use Rattle.eu_workers.proofs.timers.take_turns.Goals as goal

pub loop-turn-init : goal.loop-turn-init
loop-turn-init g c = record {
  asks = draws_none g.H.Chooser.asks c.args.chooser.now (command_of c.args.timer) (g.A.Asker.pass c.args.asker.now) c.default-ended.result c.default-ended.ensures.0 c.default-ended.ensures.1;
  each = c.default-ended.ensures.0;
}

pub loop-turn-preserved : goal.loop-turn-preserved
loop-turn-preserved g c =
    let log = rw c.command.ensures at c.ask_once-asked.ensures.log in
    let tally = rw c.command.ensures at c.ask_once-asked.ensures.tally in
    let answer = rw c.command.ensures at c.ask_once-asked.ensures.answer in
    let counts = c.count.ensures in
    record {
      asks = draws_more g.H.Chooser.asks c.args.chooser.now c.loop-turn.chooser c.ask_once-asked.new.chooser (command_of c.args.timer) c.loop-turn._turn c.now-moment.result
          (g.A.Asker.pass c.args.asker.now) (g.A.Asker.pass c.loop-turn.asker) (g.A.Asker.pass c.ask_once-asked.new.self) (g.A.Asker.pass c.end_turn.new.self) c.loop-turn.ended c.count.new.self
          c.loop-turn.invariant.asks c.ask_once-asked.ensures.journal_first c.ask_once-asked.ensures.number c.end_turn.ensures.tidies c.ask_once-asked.result log tally answer c.ask_once-asked.ensures.err c.ask_once-asked.ensures.unasked counts;
      each = counts.0 ∙ ap (λ n. n + 1) c.loop-turn.invariant.each;
    }

pub returns-then-eq-clause-asks : goal.returns-then-eq-clause-asks
returns-then-eq-clause-asks g c =
    draws_within g.H.Chooser.asks c.args.chooser.now c.loop-turn.chooser (command_of c.args.timer) c.loop-turn._turn c.args.limit (g.A.Asker.pass c.args.asker.now) (g.A.Asker.pass c.loop-turn.asker) c.loop-turn.ended
    c.loop-turn.invariant.asks c.loop-turn.auto._turn-end

pub returns-after-loop-turn-clause-asks : goal.returns-after-loop-turn-clause-asks
returns-after-loop-turn-clause-asks g c =
    draws_within g.H.Chooser.asks c.args.chooser.now c.loop-turn.chooser (command_of c.args.timer) c.loop-turn._turn c.args.limit (g.A.Asker.pass c.args.asker.now) (g.A.Asker.pass c.loop-turn.asker) c.loop-turn.ended
    c.loop-turn.invariant.asks c.loop-turn.auto._turn-end

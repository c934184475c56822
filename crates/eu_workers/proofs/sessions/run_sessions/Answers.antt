use Rattle.std.proofs.Common.{◌∙◌, ◌+◌, ap}
use Rattle.std.specs.Prelude.{is_err}
use Rattle.eu_workers.proofs.TurnLemmas.{takes_none, takes_turn, takes_within}
use Rattle.eu_workers.proofs.sessions.run_sessions.Goals as goal

pub loop-turn-init : goal.loop-turn-init
loop-turn-init g c = record { takes = takes_none c.args.pass c.default-ended.result c.default-ended.ensures.0 c.default-ended.ensures.1; each = c.default-ended.ensures.0 }

pub loop-turn-preserved : goal.loop-turn-preserved
loop-turn-preserved g c =
    record {
      takes = takes_turn c.loop-turn._turn c.args.pass c.loop-turn.seat.pass c.visit-goes_on.new.seat.pass c.loop-turn.ended c.count.new.self (is_err c.visit-goes_on.result) c.loop-turn.invariant.takes c.visit-goes_on.ensures c.count.ensures;
      each = c.count.ensures.0 ∙ ap (λ n. n + 1) c.loop-turn.invariant.each;
    }

pub returns-clause-takes : goal.returns-clause-takes
returns-clause-takes g c = takes_within c.loop-turn._turn c.args.limit c.args.pass c.loop-turn.seat.pass c.loop-turn.ended c.loop-turn.invariant.takes c.loop-turn.auto._turn-end

use Rattle.std.proofs.Common.{◌<◌, length, get_or, ◌∙◌, arith}
use Rattle.eu_deadlines.proofs.LinkLemmas.{exchanged_by_swap}
use Rattle.eu_deadlines.proofs.OrderLemmas.{sinks}
use Rattle.eu_deadlines.proofs.sift.sink.Goals as goal

pub loop-at-preserved : goal.loop-at-preserved
loop-at-preserved c =
    let i = c.loop-at.invariant in
    let inside : c.loop-at.at < length c.loop-at.deadlines = omega (arith, c.loop-at.auto.deadlines, c.loop-at.auto.positions, c.requires.long, i.within) in
    let e = c.earliest_below-least.ensures in
    let early : get_or c.loop-at.deadlines c.earliest_below-least.result 0 < get_or c.loop-at.deadlines c.loop-at.at 0 = omega arith in
    let moved = exchanged_by_swap c.loop-at.deadlines c.exchange.new.deadlines c.loop-at.at c.earliest_below-least.result inside e.within c.exchange.ensures.after in
    record {
      within = omega arith;
      order = sinks c.loop-at.deadlines c.exchange.new.deadlines c.loop-at.at c.earliest_below-least.result i.order e.below e.after e.within early e.least moved;
      linked = c.exchange.ensures.linked;
      same = c.exchange.ensures.same ∙ i.same;
    }

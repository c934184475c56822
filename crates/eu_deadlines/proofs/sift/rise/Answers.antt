use Rattle.std.proofs.Common.{◌<◌, ◌-◌, ◌/◌, length, get_or, ◌∙◌, arith}
use Rattle.eu_deadlines.proofs.LinkLemmas.{exchanged_by_swap}
use Rattle.eu_deadlines.proofs.OrderLemmas.{rises}
use Rattle.eu_deadlines.proofs.sift.rise.Goals as goal

pub loop-at-preserved : goal.loop-at-preserved
loop-at-preserved c =
    let i = c.loop-at.invariant in
    let inside : c.loop-at.at < length c.loop-at.deadlines = omega (arith, c.loop-at.auto.deadlines, c.loop-at.auto.positions, c.requires.long, i.within) in
    let above : (c.loop-at.at - 1) / 2 < length c.loop-at.deadlines = omega (arith, inside) in
    let early : get_or c.loop-at.deadlines c.loop-at.at 0 < get_or c.loop-at.deadlines ((c.loop-at.at - 1) / 2) 0 = omega arith in
    let moved = exchanged_by_swap c.loop-at.deadlines c.exchange.new.deadlines ((c.loop-at.at - 1) / 2) c.loop-at.at above inside c.exchange.ensures.after in
    record {
      within = omega arith;
      order = rises c.loop-at.deadlines c.exchange.new.deadlines c.loop-at.at i.order c.loop-at-test.true inside early moved;
      linked = c.exchange.ensures.linked;
      same = c.exchange.ensures.same ∙ i.same;
    }

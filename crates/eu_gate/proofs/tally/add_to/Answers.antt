use Rattle.std.proofs.Common.{◌≡◌, ◌+◌, ◌<◌, ap, ◌∙◌, length, take, set, arith}
use Rattle.eu_gate.specs.Tallies as spec
use Rattle.eu_gate.proofs.TallyLemmas.{changed_more, left_more}
use Rattle.eu_gate.proofs.tally.add_to.Goals as goal

pub loop-count-preserved : goal.loop-count-preserved
loop-count-preserved c =
    let i = c.loop-count.count-index in
    let initial = c.args.counts.now in
    let xs = c.loop-count.counts in
    let inside : i < length xs = omega (arith, c.loop-count-test.true, c.loop-count.auto.counts) in
    record {
      so_far =
          ap (λ x. take (i + 1) (set xs i x)) c.add.ensures
          ∙ changed_more (spec.with_those_of c.args.others.now) initial xs i (record { number = 0; times = 0 }) c.loop-count-test.true inside c.loop-count.invariant.so_far c.loop-count.invariant.left;
      left = left_more initial xs i c.add.new.self c.loop-count.invariant.left;
    }

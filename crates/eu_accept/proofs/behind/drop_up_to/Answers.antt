use Rattle.std.proofs.Common.{arith}
use Rattle.eu_accept.proofs.BehindLemmas.{drops_more}
use Rattle.eu_accept.proofs.behind.drop_up_to.Goals as goal

pub loop-piece-preserved : goal.loop-piece-preserved
loop-piece-preserved g c = record {
  within = λ _. omega (arith, c.in-Came.ensures.most, c.if-dropped-most.false);
  counted = drops_more _ _ _ c.args.before c.loop-piece.dropped c.in-Came.count c.loop-piece.invariant.counted c.in-Came.ensures.dropped;
}

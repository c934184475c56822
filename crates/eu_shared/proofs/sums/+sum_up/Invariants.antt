use Rattle.std.proofs.Common.{vec_len}
use Rattle.eu_shared.proofs.sums.+sum_up.Given as goal

abbrev pub decreases-sum_up : goal.decreases-sum_up
decreases-sum_up g l = vec_len l.passes.now

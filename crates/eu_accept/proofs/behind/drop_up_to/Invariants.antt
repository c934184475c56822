use Rattle.std.proofs.Common.{◌≤◌}
use Rattle.eu_accept.specs.Behind.{Drops}
use Rattle.eu_accept.proofs.behind.drop_up_to.Given as goal

abbrev pub invariant-loop-piece : goal.invariant-loop-piece
invariant-loop-piece g l = record {
  within : l.before ≤ l.most → l.dropped ≤ l.most;
  counted : Drops (g.S.Read.remaining l.initial.socket) (g.S.Read.remaining l.socket) l.before l.dropped;
}

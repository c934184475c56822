use Rattle.std.proofs.Common.{◌≡◌, vec_len}
use Rattle.eu_accept.proofs.hub.Hub.open.Given as goal

-- one for each loop so far
abbrev pub invariant-loop : goal.invariant-loop
invariant-loop g l = vec_len l.polls ≡ l.counter

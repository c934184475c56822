use Rattle.std.proofs.Common.{◌≡◌, replicate}
use Rattle.eu_eviction.proofs.lots.lots.Given as goal

-- the lists so far
abbrev pub invariant-loop-made : goal.invariant-loop-made
invariant-loop-made l = l.lots.items ≡ replicate l._made l.keys

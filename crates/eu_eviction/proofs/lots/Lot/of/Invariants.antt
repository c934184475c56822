use Rattle.std.proofs.Common.{◌≡◌, take}
use Rattle.eu_eviction.proofs.lots.Lot.of.Given as goal

-- the keys so far
abbrev pub invariant-loop-key : goal.invariant-loop-key
invariant-loop-key l = l.list.items ≡ take l.key-index l.keys

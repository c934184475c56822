use Rattle.std.proofs.Common.{◌≡◌, take}
use Rattle.eu_base.proofs.names.Items+Key.copy.Given as goal

-- the keys so far
abbrev pub invariant-loop-key : goal.invariant-loop-key
invariant-loop-key l = l.keys.items ≡ take l.key-index l.key-items

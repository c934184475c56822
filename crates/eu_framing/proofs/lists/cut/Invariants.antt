use Rattle.std.proofs.Common.{take}
use Rattle.eu_framing.specs.Lists.{HasNoComma}
use Rattle.eu_framing.proofs.lists.cut.Given as goal

abbrev pub invariant-loop-i : goal.invariant-loop-i
invariant-loop-i l = HasNoComma (take l.i l.text)

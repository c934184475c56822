use Rattle.std.proofs.Common.{◌≡◌, map, take}
use Rattle.eu_peer.specs.Turns.{code}
use Rattle.eu_peer.proofs.turn.codes_of.Given as goal

abbrev pub invariant-loop-answer : goal.invariant-loop-answer
invariant-loop-answer l = l.codes.items ≡ map code (take l.answer-index l.answers)

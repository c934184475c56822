use Rattle.eu_accept.specs.Turns.{IsFewest}
use Rattle.eu_accept.proofs.door.fewest.Given as goal

-- of those that were seen, that one has the fewest
abbrev pub invariant-loop-number : goal.invariant-loop-number
invariant-loop-number l = IsFewest l.sessions l.number l.found

use Rattle.std.proofs.Common.{◌≡◌, []}
use Rattle.eu_workers.specs.Returned.{IsAsked}
use Rattle.eu_workers.proofs.sessions.serve.Given as goal

abbrev pub invariant-loop-turn : goal.invariant-loop-turn
invariant-loop-turn g l = record {
  asked : IsAsked l.initial.seat.pass l.seat.pass;
  sent : l.visit.guest.value.unsent.rest ≡ [];
}

use Rattle.eu_hall.specs.Places.{NoneDue}
use Rattle.eu_hall.proofs.place.first_due.Given as goal

abbrev pub invariant-loop-key : goal.invariant-loop-key
invariant-loop-key g l = NoneDue l.places.slots l.now l.stops l.from l.key

use Rattle.std.proofs.Common.{arith, ap, length, length-drop}
use Rattle.eu_hall.proofs.unsent.Unsent.memory.Goals as goal

pub returns-clause-none : goal.returns-clause-none
returns-clause-none c = λ empty. rw c.capacity.ensures (c.self.invariant.freed (omega (arith, ap length (ap (λ w. w.rest) c.self.view_is), ap length empty, length-drop c.self.inside.sent c.self.inside.bytes.items)))

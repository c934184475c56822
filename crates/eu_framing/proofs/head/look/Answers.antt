use Rattle.std.proofs.Common.{ap, Err}
use Rattle.eu_framing.proofs.HeadLemmas.{head_exceeds, head_never}
use Rattle.eu_framing.proofs.head.look.Goals as goal

pub returns-in-TooManyHeaders-clause-fault : goal.returns-in-TooManyHeaders-clause-fault
returns-in-TooManyHeaders-clause-fault c = λ more. head_exceeds c.args.buffer.now more (rw (c.requires, c.window.ensures) at (c.in-Err.ensures.too_many (ap Err c.in-TooManyHeaders.is)))

pub returns-in_default : goal.returns-in_default
returns-in_default c = record {
  head = tt;
  none = tt;
  fault = λ more. head_never c.args.buffer.now more (rw c.window.ensures at (c.in-Err.ensures.invalid c.in_default.not-TooManyHeaders));
}

-- Where the option has no number, none within the bounds is what it gives
use Rattle.std.proofs.Common.{rules, arith}
use Rattle.eu_options.proofs.options.number_within.Goals as goal

pub returns-in_err-found-clause-none : goal.returns-in_err-found-clause-none
returns-in_err-found-clause-none c = λ n _ high h.
    let found = c.number.ensures.none n (omega (arith, high, c.ranges.most.fits)) h in
    search (rules, found)

-- Where `--sessions` has no number, no end is what the options give
use Rattle.std.proofs.Common.{rules}
use Rattle.eu_options.proofs.options.end_of.Goals as goal

pub returns-in_err-sessions-clause-counted : goal.returns-in_err-sessions-clause-counted
returns-in_err-sessions-clause-counted c = λ n small h.
    let found = c.number.ensures.none n small h.1 in
    search (rules, found)

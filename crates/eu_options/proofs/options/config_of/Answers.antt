-- Where an option has no number, no settings hold what the options give
use Rattle.std.proofs.Common.{rules, arith}
use Rattle.eu_options.proofs.options.config_of.Goals as goal

pub returns-in_err-percent-clause-none : goal.returns-in_err-percent-clause-none
returns-in_err-percent-clause-none c = λ d within _ h.
    let found = c.number.ensures.none d.percent (omega (arith, within.0)) h.1 in
    search (rules, found)

pub returns-in_err-interval-clause-none : goal.returns-in_err-interval-clause-none
returns-in_err-interval-clause-none c = λ d within _ h.
    let found = c.number-2.ensures.none d.interval (omega (arith, within.1.1)) h.2 in
    search (rules, found)

pub returns-in_err-evict_ms-clause-none : goal.returns-in_err-evict_ms-clause-none
returns-in_err-evict_ms-clause-none c = λ d _ small h.
    let found = c.number-3.ensures.none d.evict_ms small h.3 in
    search (rules, found)

-- Where an option isn't as it is to be, no server is what the options give
use Rattle.std.proofs.Common.{rules, arith, ℕ, ◌<◌, Option, None, Some, IfSome}
use Rattle.clap.specs.declared.parser.matches.ArgMatches.{ArgMatches}
use Rattle.eu_options.specs.Options.{IsAdminPort, IsEnd}
use Rattle.eu_options.proofs.options.serving_of.Goals as goal

pub returns-in_err-port-clause-none : goal.returns-in_err-port-clause-none
returns-in_err-port-clause-none c = λ s small _ _ _ _ _ _ h.
    let found = c.port_of.ensures.none s.port small h.0 in
    search (rules, found)

pub returns-in_err-bind-clause-none : goal.returns-in_err-bind-clause-none
returns-in_err-bind-clause-none c = λ s _ _ _ _ _ _ _ h.
    let found = c.address_of.ensures.none s.bind h.1 in
    search (rules, found)

-- what follows from an end by no number, and from each number, follows from each end
of_end : (m : ArgMatches) → (P : Type 0) → (IsEnd m None → P) → ((n : ℕ) → n < 4294967296 → IsEnd m (Some n) → P)
    → (end : Option ℕ) → IfSome end (λ n. n < 4294967296) → IsEnd m end → P
of_end m P forever counted None _ h = forever h
of_end m P forever counted (Some n) small h = counted n small h

-- and the same of the port of operators
of_port : (m : ArgMatches) → (P : Type 0) → (IsAdminPort m None → P) → ((n : ℕ) → n < 65536 → IsAdminPort m (Some n) → P)
    → (port : Option ℕ) → IfSome port (λ n. n < 65536) → IsAdminPort m port → P
of_port m P without given None _ h = without h
of_port m P without given (Some n) small h = given n small h

pub returns-in_err-admin_port-clause-none : goal.returns-in_err-admin_port-clause-none
returns-in_err-admin_port-clause-none c = λ s _ _ small _ _ _ _ h.
    let found = of_port c.args.matches.now _ c.admin_port_of.ensures.without c.admin_port_of.ensures.given s.admin_port small h.2 in
    search (rules, found)

pub returns-in_err-admin_bind-clause-none : goal.returns-in_err-admin_bind-clause-none
returns-in_err-admin_bind-clause-none c = λ s _ _ _ _ _ _ _ h.
    let found = c.address_of-2.ensures.none s.admin_bind h.3 in
    search (rules, found)

pub returns-in_err-sessions-clause-none : goal.returns-in_err-sessions-clause-none
returns-in_err-sessions-clause-none c = λ s _ small _ _ _ _ _ h.
    let found = of_end c.args.matches.now _ c.end_of.ensures.forever c.end_of.ensures.counted s.sessions small h.4 in
    search (rules, found)

pub returns-in_err-workers-clause-none : goal.returns-in_err-workers-clause-none
returns-in_err-workers-clause-none c = λ s _ _ _ _ _ _ _ h.
    let found = c.number_within.ensures.none s.workers s.workers_bound.0 s.workers_bound.1 h.5 in
    search (rules, found)

pub returns-in_err-expected-clause-none : goal.returns-in_err-expected-clause-none
returns-in_err-expected-clause-none c = λ s _ _ _ small _ _ _ h.
    let found = c.number.ensures.none s.expected small h.6 in
    search (rules, found)

pub returns-in_err-connections-clause-none : goal.returns-in_err-connections-clause-none
returns-in_err-connections-clause-none c = λ s _ _ _ _ _ _ _ h.
    let found = c.number_within-2.ensures.none s.connections s.connections_bound.0 s.connections_bound.1 h.7 in
    search (rules, found)

pub returns-in_err-idle_ms-clause-none : goal.returns-in_err-idle_ms-clause-none
returns-in_err-idle_ms-clause-none c = λ s _ _ _ _ small _ _ h.
    let found = c.number_within-3.ensures.none s.idle_ms s.idle_bound (omega (arith, small)) h.8 in
    search (rules, found)

pub returns-in_err-request_ms-clause-none : goal.returns-in_err-request_ms-clause-none
returns-in_err-request_ms-clause-none c = λ s _ _ _ _ _ small _ h.
    let found = c.number_within-4.ensures.none s.request_ms s.request_bound (omega (arith, small)) h.9 in
    search (rules, found)

pub returns-in_err-warm_up_ms-clause-none : goal.returns-in_err-warm_up_ms-clause-none
returns-in_err-warm_up_ms-clause-none c = λ s _ _ _ _ _ _ small h.
    let found = c.number-2.ensures.none s.warm_up_ms small h.10 in
    search (rules, found)

pub returns-in_err-until_input_ends-clause-none : goal.returns-in_err-until_input_ends-clause-none
returns-in_err-until_input_ends-clause-none c = λ s _ _ _ _ _ _ _ h.
    let found = c.flag_of.ensures.none s.until_input_ends h.11 in
    search (rules, found)

pub returns-in_err-is_quiet-clause-none : goal.returns-in_err-is_quiet-clause-none
returns-in_err-is_quiet-clause-none c = λ s _ _ _ _ _ _ _ h.
    let found = c.flag_of-2.ensures.none s.is_quiet h.12 in
    search (rules, found)

pub returns-in_err-accepts_peers-clause-none : goal.returns-in_err-accepts_peers-clause-none
returns-in_err-accepts_peers-clause-none c = λ s _ _ _ _ _ _ _ h.
    let found = c.switch_of.ensures.none s.accepts_peers h.13 in
    search (rules, found)

pub returns-in_err-most_body-clause-none : goal.returns-in_err-most_body-clause-none
returns-in_err-most_body-clause-none c = λ s _ _ _ _ _ _ _ h.
    let found = c.number_within-5.ensures.none s.most_body s.body_bound.0 s.body_bound.1 h.14 in
    search (rules, found)

-- Registries as plain data
use Rattle.std.specs.Prelude.{map}
use Rattle.std.specs.FinMap.{from_entries}
use Rattle.eu_model.specs.declared.states.State.{State}
use Rattle.eu_model.specs.Plain.{Plain}
use Rattle.eu_model.specs.Server.{PlainServer}

-- the plain form of a state: each lease stands under the key of its instance
abbrev pub plain_of_state : State → Plain
plain_of_state s = record {
  config = s.config;
  leases = from_entries (map (λ l. (l.instance.key, l)) s.leases);
  overrides = from_entries s.overrides;
  expected = s.expected;
  last = s.last;
  since = s.since;
  previous = s.previous;
}

-- the same with the queues of its peers
abbrev pub server_of_state : State → PlainServer
server_of_state s = record { registry = plain_of_state s; queues = s.queues }

-- A registry as plain data: its plain form, with leases and rows in key order, and no peers
use Rattle.std.specs.Prelude.{[], map}
use Rattle.std.specs.FinMap.{entries}
use Rattle.eu_model.specs.declared.states.State.{State}
use Rattle.eu_model.specs.Plain.{Plain}

-- each lease and each row once, in the order of its key
abbrev pub state_of : Plain → State
state_of p = record {
  config = p.config;
  expected = p.expected;
  leases = map (λ e. e.1) (entries p.leases);
  overrides = entries p.overrides;
  last = p.last;
  since = p.since;
  previous = p.previous;
  queues = [];
}

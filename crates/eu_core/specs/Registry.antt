-- What a registry means
use Rattle.eu_model.specs.Plain.{Plain}
use Rattle.eu_core.specs.declared.registry.Registry.TheInside.{Inside}

-- the plain form of the fields
abbrev pub plain_of : Inside → Plain
plain_of a = record {
  config = a.threshold.config;
  leases = a.leases.held;
  overrides = a.overrides.rows;
  expected = a.threshold.expected;
  last = a.rate.last;
  since = a.rate.since;
  previous = a.previous;
}

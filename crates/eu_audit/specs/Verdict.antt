-- What a verdict on a step says
use Rattle.std.specs.Prelude.{◌≡◌, ◌≤◌, ◌^◌, length, Option, Some, None}
use Rattle.std.specs.FinMap.{len, entries}
use Rattle.eu_model.specs.declared.states.State.{State}
use Rattle.eu_model.specs.Plain.{Plain}
use Rattle.eu_model.specs.View.{by_key}
use Rattle.eu_base.specs.Limits.{most_expected, most_leases, most_renewals}

-- some: the step leads there; none: it leads nowhere
abbrev pub Judged : {S : Type 0} → (S → Type 0) → Option S → Type 0
Judged leads (Some new) = leads new
Judged {S} leads None = (new : S) → leads new → ⊥

-- it is within the limits of a registry
pub record IsWithinLimits (p : Plain) : Type 0 where
  pub leases : len p.leases ≤ most_leases
  pub expected : p.expected ≤ most_expected
  pub since : p.since ≤ most_renewals

-- plain data is within those limits
pub record IsLimited (s : State) : Type 0 where
  pub leases : length s.leases ≤ most_leases
  pub expected : s.expected ≤ most_expected
  pub since : s.since ≤ most_renewals

-- ---- what is kept beside plain data

abbrev pub HasNumbers : Plain → State → Type 0
HasNumbers p s =
    (p.config ≡ s.config) × (p.expected ≡ s.expected) × (p.last ≡ s.last) × (p.since ≡ s.since) × (p.previous ≡ s.previous)

-- it lists what is kept, in order
abbrev pub IsListed : Plain → State → Type 0
IsListed p s = (entries p.leases ≡ by_key s.leases) × (entries p.overrides ≡ s.overrides) × HasNumbers p s

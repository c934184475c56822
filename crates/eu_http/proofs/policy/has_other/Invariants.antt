use Rattle.std.proofs.Common.{◌≡◌, drop, not}
use Rattle.std.specs.List.{list_any}
use Rattle.eu_http.specs.Policy.{is_allowed}
use Rattle.eu_http.proofs.policy.has_other.Given as goal

-- another origin stands in what is left where one stands in all
abbrev pub invariant-loop-origin : goal.invariant-loop-origin
invariant-loop-origin l = list_any (λ o. not (is_allowed l.allowed o.items)) (drop l.origin-index l.origins) ≡ list_any (λ o. not (is_allowed l.allowed o.items)) l.origins

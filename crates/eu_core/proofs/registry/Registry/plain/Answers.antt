use Rattle.std.proofs.Common.{◌≡◌, map, ap, ◌∙◌}
use Rattle.std.specs.FinMap.{entries}
use Rattle.eu_model.specs.declared.states.State.{State}
use Rattle.eu_core.specs.Registry.{plain_of}
use Rattle.eu_core.specs.State.{state_of}
use Rattle.eu_model.proofs.ListingLemmas.{filter_true}
use Rattle.eu_core.proofs.registry.Registry.plain.Goals as goal

pub returns : goal.returns
returns c =
    let p = plain_of c.self.inside in
    let leases = c.new-leases.ensures ∙ c.in_ok-listed.ensures ∙ ap (map (λ e. e.1)) (filter_true (entries p.leases)) in
    let queues = c.new-2.ensures ∙ c.new.ensures.items in
    let whole : ◌≡◌ {A = State}
    (record { config = c.config.result; expected = c.expected.result; leases = c.new-leases.result; overrides = c.in_ok-overrides.overrides; last = c.last-last.result; since = c.end_minute.result; previous = p.previous; queues = c.new-2.result })
    (state_of p) =
    λ i. record { config = c.config.ensures i; expected = c.expected.ensures.value i; leases = leases i; overrides = c.in_ok-overrides.ensures i; last = c.last-last.ensures i; since = c.end_minute.ensures.value i; previous = p.previous; queues = queues i } in
    whole ∙ ap state_of c.self.view_is

use Rattle.std.proofs.Common.{refl, ap, sym, ◌∙◌}
use Rattle.std.specs.FinMap.{get}
use Rattle.eu_model.specs.Machine.{with_value}
use Rattle.eu_store.specs.Stored.{amended}
use Rattle.eu_core.specs.Decided.{lease_left}
use Rattle.eu_core.proofs.RowLemmas.{changed_value, with_lease-same}
use Rattle.eu_core.proofs.decision.write_lease.Goals as goal

pub returns-in-Stays : goal.returns-in-Stays
returns-in-Stays c =
    let m = c.args.leases.now.held in
    let k = c.args.key.now in
    sym (with_lease-same m k (get m k) refl) ∙ ap (λ x. with_value m k (lease_left x (get m k))) (sym c.in-Stays.is)

pub returns-in-Amended : goal.returns-in-Amended
returns-in-Amended c =
    let m = c.args.leases.now.held in
    let k = c.args.key.now in
    c.amend.ensures.held ∙ changed_value (amended c.in-Amended.amendment) m k ∙ ap (λ x. with_value m k (lease_left x (get m k))) (sym c.in-Amended.is)

use Rattle.std.proofs.Common.{◌-◌, min, length, filter, sym, ap, ◌∙◌}
use Rattle.std.specs.FinMap as map
use Rattle.eu_model.specs.PlainSteps.{plain_expired}
use Rattle.eu_base.proofs.KeyLemmas.{keys_total, keys_exact}
use Rattle.eu_audit_tables.specs.Counted.{counted}
use Rattle.eu_audit_tables.proofs.MapLemmas.{entries_in_order}
use Rattle.eu_audit_tables.proofs.CountLemmas.{expired-held_before}
use Rattle.eu_audit_tables.proofs.leases.Leases.expired.Goals as goal

pub returns : goal.returns
returns c =
    let es = c.self.inside.table.entries in
    c.number_before.ensures
    ∙ ap (λ n. min n c.args.most)
    (ap (counted c.self.inside.deadlines) (c.saturating_sub.ensures ∙ ap (λ t. t - c.args.extra) c.ms.ensures.value)
    ∙ c.self.invariant (c.args.moment - c.args.extra)
    ∙ sym (expired-held_before es c.args.moment c.args.extra)
    ∙ ap (λ es. length (filter (λ e. plain_expired e.1 c.args.moment c.args.extra) es)) (sym (entries_in_order keys_total keys_exact es c.len-held.ensures.ordered) ∙ ap map.entries c.self.view_is))

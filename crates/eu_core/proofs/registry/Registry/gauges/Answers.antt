use Rattle.std.proofs.Common.{◌≡◌, length, ap, sym, ◌∙◌}
use Rattle.eu_model.specs.declared.views.Gauges.{Gauges}
use Rattle.eu_model.specs.PlainSteps.{plain_due}
use Rattle.eu_model.specs.Step.{due, extra_time}
use Rattle.eu_model.specs.View.{counts}
use Rattle.eu_model.proofs.EvictLemmas.{due-kept}
use Rattle.eu_store.specs.Stored.{expired_keys}
use Rattle.eu_core.specs.Registry.{plain_of}
use Rattle.eu_core.proofs.registry.Registry.gauges.Goals as goal

pub returns : goal.returns
returns c s e =
    let p = plain_of c.self.inside in
    let t = c.args.moment in
    let extra = c.extra_time-extra.ensures ∙ ap (λ k. extra_time k p.previous t) c.config.ensures in
    let same = c.self.view_is ∙ sym e in
    let counted : c.counts.result ≡ counts s = c.counts.ensures s e in
    let many = c.in_ok-due.ensures ∙ ap (λ x. length (expired_keys p.leases t x)) extra ∙ ap (λ q. length (plain_due q t)) same ∙ ap length (sym (due-kept s t)) in
    λ i. let g : Gauges = record { counts = counted i; due = many i } in g

use Rattle.std.proofs.Common.{◌≡◌, sym, ap, ◌∙◌, subst, true}
use Rattle.eu_model.specs.Step.{extra_time}
use Rattle.eu_model.specs.Plain.{Plain}
use Rattle.eu_model.specs.PlainSteps.{plain_evicted, PlainStep}
use Rattle.eu_model.specs.declared.commands.Command.TheVariants.{Evict}
use Rattle.eu_model.specs.declared.commands.Reply.TheVariants.{Evicted}
use Rattle.eu_audit.specs.Verdict.{Judged}
use Rattle.eu_audit.specs.Victims.{takes}
use Rattle.eu_audit.proofs.VictimLemmas.{by_victims}
use Rattle.eu_audit.proofs.registry.Replica.evict.Goals as goal

pub returns : goal.returns
returns c =
    let p = c.args.self in
    let t = c.args.moment in
    let vs = c.as_slice-victims.result.now in
    let next = c.without.result in
    let extra = c.extra_time-extra.ensures ∙ ap (λ (q : Plain). extra_time q.config q.previous t) c.self.view_is in
    let judged = subst (λ x. Judged (λ new. (takes p.leases t x vs ≡ true) × (new ≡ plain_evicted p t vs)) next) extra c.without.ensures in
    subst (λ reply. Judged (PlainStep p Evict t reply) next) (ap Evicted c.as_slice-victims.ensures ∙ sym c.in-Evicted.is)
    (by_victims p t vs (c.evicts_as_many.ensures.0 c.if-not-evicts_as_many.false) next judged)

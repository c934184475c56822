use Rattle.std.proofs.Common.{arith, ap, sym, refl, ◌∙◌}
use Rattle.std.specs.FinMap.{get}
use Rattle.std.specs.Option.{option_copied}
use Rattle.eu_model.specs.declared.commands.Command.TheVariants.{UnsetStatus}
use Rattle.eu_model.specs.PlainSteps.{plain_seen, plain_unset_status}
use Rattle.eu_model.specs.Machine.{is_permitted}
use Rattle.eu_model.proofs.StatusLemmas.{unsets, unset_answers}
use Rattle.eu_core.proofs.DecidedLemmas.{answers_at, ready_in_place, uncounted_ready}
use Rattle.eu_core.proofs.LookLemmas.{seen_held}
use Rattle.eu_core.proofs.StepLemmas.{memory_refused}
use Rattle.eu_core.proofs.registry.Registry.status_unsetting.Goals as goal

pub returns-clause-decides : goal.returns-clause-decides
returns-clause-decides c replicated =
    let a = c.args in
    let p = a.self.now in
    let k = a.key.now in
    let t = a.moment in
    let d = c.decide_no_status.result in
    let held = get p.leases k in
    let visible = c.visible-visible.ensures ∙ ap (plain_seen (is_permitted p.config p.expected p.last) t) c.requires.held in
    let row = c.context.ensures.row ∙ c.requires.row in
    record {
      answers = answers_at p (UnsetStatus k a.status a.last_dirty replicated) t k d held _ (λ e. plain_unset_status (option_copied c.visible-visible.result) held c.context.result.row e a.status a.last_dirty t) (unsets k a.status a.last_dirty t p)
          refl c.context.ensures.expected
          (c.decide_no_status.ensures.change held (λ l e. seen_held _ t held l (sym e ∙ visible)))
          (λ i. plain_unset_status (visible i) held (row i) p.expected a.status a.last_dirty t) (unset_answers k a.status a.last_dirty t replicated p);
      memory = memory_refused (UnsetStatus k a.status a.last_dirty replicated) t p (λ s. refl);
      ready = ready_in_place p k d.change c.decide_no_status.ensures.in_place (omega (arith, c.decide_no_status.ensures.few, c.context.ensures.bound)) (uncounted_ready _ p.since c.decide_no_status.ensures.uncounted);
    }

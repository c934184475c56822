use Rattle.std.proofs.Common.{arith, ap, refl}
use Rattle.std.specs.Option.{option_copied}
use Rattle.eu_model.specs.declared.commands.Command.TheVariants.{Cancel}
use Rattle.eu_model.specs.PlainSteps.{plain_cancel}
use Rattle.eu_model.proofs.CancelLemmas.{cancels, cancel_answers}
use Rattle.eu_core.proofs.DecidedLemmas.{answers_at, ready_in_place, uncounted_ready}
use Rattle.eu_core.proofs.StepLemmas.{memory_refused}
use Rattle.eu_core.proofs.registry.Registry.cancellation.Goals as goal

pub returns-clause-decides : goal.returns-clause-decides
returns-clause-decides c replicated t =
    let p = c.args.self.now in
    let k = c.args.key.now in
    let d = c.decide_cancel.result in
    let held = option_copied c.args.held in
    record {
      answers = answers_at p (Cancel k replicated) t k d held _ (plain_cancel held) (cancels k p)
          c.requires.held c.context.ensures.expected c.decide_cancel.ensures.change
          (ap (λ o. plain_cancel o p.expected) c.requires.held) (cancel_answers k replicated t p);
      memory = memory_refused (Cancel k replicated) t p (λ s. refl);
      ready = ready_in_place p k d.change c.decide_cancel.ensures.in_place (omega (arith, c.decide_cancel.ensures.few, c.context.ensures.bound)) (uncounted_ready _ p.since c.decide_cancel.ensures.uncounted);
    }

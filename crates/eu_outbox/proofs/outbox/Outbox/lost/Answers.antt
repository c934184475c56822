use Rattle.std.proofs.Common.{ap, ◌∙◌}
use Rattle.eu_model.specs.Server.{bounded, lost}
use Rattle.eu_outbox.specs.Steps.{gave_all}
use Rattle.eu_outbox.proofs.TaskLemmas.{gave_all-returning}
use Rattle.eu_outbox.proofs.outbox.Outbox.lost.Goals as goal

pub returns-clause-lost : goal.returns-clause-lost
returns-clause-lost c =
    let flight = c.self.inside.flight.items in
    let waiting =
    c.bound.ensures.tasks
    ∙ ap bounded (c.give_back_all.ensures.tasks ∙ ap (gave_all c.args.moment flight) c.in_ok-reserve.ensures.tasks ∙ gave_all-returning c.args.moment flight c.self.inside.waiting.tasks c.self.invariant.1) in
    (λ i. record { waiting = waiting i; flight = c.give_back_all.ensures.none i }) ∙ ap (λ s. lost c.args.moment s.queue) c.self.view_is

use Rattle.std.proofs.Common.{Some, ap, ◌∙◌}
use Rattle.std.specs.FinMap.{get}
use Rattle.eu_model.specs.declared.views.Listed.{Listed}
use Rattle.eu_model.specs.PlainSteps.{plain_seen}
use Rattle.eu_model.specs.Machine.{is_permitted}
use Rattle.eu_model.specs.Plain.{Plain}
use Rattle.eu_core.proofs.LookLemmas.{shows}
use Rattle.eu_core.proofs.registry.Registry.look.Goals as goal

pub returns-in-None : goal.returns-in-None
returns-in-None c =
    let p = c.args.self.now in
    shows p c.args.key.now c.args.moment _ (c.in-None.ensures ∙ ap (plain_seen (is_permitted p.config p.expected p.last) c.args.moment) (c.get.ensures ∙ ap (λ (q : Plain). get q.leases c.args.key.now) c.self.view_is))

pub returns-in-Some : goal.returns-in-Some
returns-in-Some c =
    let p = c.args.self.now in
    shows p c.args.key.now c.args.moment _
    (ap Some (λ x. let l : Listed = record { instance = c.instance.ensures x; times = c.times.ensures x } in l)
    ∙ c.in-Some.ensures ∙ ap (plain_seen (is_permitted p.config p.expected p.last) c.args.moment) (c.get.ensures ∙ ap (λ (q : Plain). get q.leases c.args.key.now) c.self.view_is))

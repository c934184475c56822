use Rattle.std.proofs.Common.{ap, sym, subst, ◌∙◌}
use Rattle.std.specs.Prelude.{Ok}
use Rattle.std.specs.Option.{option_map}
use Rattle.eu_model.specs.declared.views.Listed.{Listed}
use Rattle.eu_model.specs.Answers.{Answers}
use Rattle.eu_core.specs.Decided.{lease_left}
use Rattle.eu_core.specs.Stepped.{Steps, copies_of}
use Rattle.eu_core.specs.Undone.{undone}
use Rattle.eu_core.proofs.StepLemmas.{at_one, held_left, unasked}
use Rattle.eu_core.proofs.registry.Registry.step.Goals as goal

pub returns-in_default-clause-ok : goal.returns-in_default-clause-ok
returns-in_default-clause-ok g c =
    at_one c.step_on_no_lease.result (λ s m. Steps g.C.Chooser.asks c.args.self.now c.args.chooser.now c.args.command.now c.args.moment c.args.logs m s c.step_on_no_lease.new.self c.step_on_no_lease.new.chooser) c.args.held c.step_on_no_lease.ensures.ok

pub returns-clause-ok : goal.returns-clause-ok
returns-clause-ok g c =
    let a = c.args in
    let p = a.self.now in
    let k = c.in-Some.key.now in
    let d = c.in_ok-decision.decision in
    let next = c.in_ok-carry_out.ensures.ok in
    record {
      acts = record {
        answers = subst (λ q. Answers p a.command.now a.moment (Ok d.reply) q) (sym next) c.in_ok-decision.ensures.decides.answers;
        same = c.in_ok-others.ensures;
        held_are =
            c.in_ok-held.ensures
            ∙ ap (λ o. copies_of a.held (option_map (λ (l : Listed). l.instance) (lease_left d.change.lease o))) c.find-row.ensures.held
            ∙ ap (copies_of a.held) (held_left p c.carry_out.new.self a.command.now k d.change (sym c.in-Some.ensures) next);
      };
      chooses = unasked g.C.Chooser.asks p a.chooser.now a.command.now k a.moment d.reply (sym c.in-Some.ensures);
    }

pub returns-clause-undo : goal.returns-clause-undo
returns-clause-undo g c =
    ap (undone c.args.command.now c.in_ok-undo.undo) c.in_ok-carry_out.ensures.ok ∙ c.in_ok-undo.ensures c.args.command.now (sym c.in-Some.ensures)

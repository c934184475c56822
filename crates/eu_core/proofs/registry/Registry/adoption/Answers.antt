use Rattle.std.proofs.Common.{◌≤◌, ◌^◌, true, sym, subst, ap, refl, ◌∙◌}
use Rattle.std.specs.FinMap.{get}
use Rattle.std.specs.Option.{option_copied, option_or}
use Rattle.eu_base.specs.declared.faults.Fault.TheVariants.{OutOfMemory}
use Rattle.eu_model.specs.declared.commands.Command.TheVariants.{Adopt}
use Rattle.eu_model.specs.Answers.{IsRefusal}
use Rattle.eu_model.specs.Change.{row_of}
use Rattle.eu_model.specs.PlainSteps.{plain_register}
use Rattle.eu_model.proofs.AdoptLemmas.{adopts, adopt_answers, adopt_refused}
use Rattle.eu_core.proofs.AdoptLemmas.{adopt_registers}
use Rattle.eu_core.proofs.DecidedLemmas.{answered, uncounted_ready}
use Rattle.eu_core.proofs.RegisterLemmas.{joined_is}
use Rattle.eu_core.proofs.StepLemmas.{no_memory, refused_as}
use Rattle.eu_core.proofs.registry.Registry.adoption.Goals as goal

pub returns-in_err-expected-clause-refused : goal.returns-in_err-expected-clause-refused
returns-in_err-expected-clause-refused c =
    let a = c.args in
    let n = a.instance.now in
    let f = c.in_err-expected.field-0.0 in
    refused_as c.from_residual.result f f _ c.from_residual.ensures.1 refl
    (adopt_refused n a.moment a.self.now f (subst (λ o. IsRefusal o f) (sym (c.in_err-expected.ensures.refused n.key c.requires.held)) refl))

pub returns-in_err-decide_join-clause-refused : goal.returns-in_err-decide_join-clause-refused
returns-in_err-decide_join-clause-refused c =
    let a = c.args in
    let n = a.instance.now in
    no_memory c.from_residual-in_err-decide_join.result _ c.from_residual-in_err-decide_join.ensures.1
    (adopt_refused n a.moment a.self.now OutOfMemory (subst (λ o. IsRefusal o OutOfMemory) (sym (c.in_ok-expected.ensures.ok n.key c.requires.held)) refl))

pub returns-clause-decides : goal.returns-clause-decides
returns-clause-decides c =
    let a = c.args in
    let p = a.self.now in
    let n = a.instance.now in
    let t = a.moment in
    let d = c.in_ok-decide_join.field-0 in
    let held = option_copied a.held in
    let ok = c.in_ok-expected.ensures in
    let row = c.or.ensures ∙ (λ i. option_or ((c.row_of.ensures ∙ ap row_of c.overridden.ensures) i) (c.requires.row i)) in
    let joins = c.in_ok-decide_join.ensures.joins in
    record {
      answers = answered p (Adopt n) t n.key d held _ (adopts n t p) c.requires.held
          (joined_is d held c.or.result p.expected c.in_ok-expected.expected n true t joins ok.expected)
          ((λ i. plain_register (c.requires.held i) (row i) p.expected n true t) ∙ adopt_registers (get p.leases n.key) (get p.overrides n.key.id) p.expected n t)
          (adopt_answers n t p (ok.ok n.key c.requires.held));
      memory = adopt_refused n t p OutOfMemory (subst (λ o. IsRefusal o OutOfMemory) (sym (ok.ok n.key c.requires.held)) refl);
      ready = record {
        new = c.in_ok-decide_join.ensures.new p.leases c.requires.held ok.few;
        bound = subst (λ e. e ≤ 2 ^ 40) (sym joins.expected_is) ok.bound;
        countable = uncounted_ready _ p.since joins.counted_is;
      };
    }

use Rattle.std.proofs.Common.{◌≤◌, ◌^◌, sym, subst, refl}
use Rattle.std.specs.Option.{option_copied}
use Rattle.eu_base.specs.declared.faults.Fault.TheVariants.{OutOfMemory}
use Rattle.eu_model.specs.declared.commands.Command.TheVariants.{Register}
use Rattle.eu_model.specs.Answers.{IsRefusal}
use Rattle.eu_model.specs.PlainSteps.{plain_register}
use Rattle.eu_model.proofs.RegisterLemmas.{registers, register_answers, register_refused}
use Rattle.eu_core.proofs.DecidedLemmas.{answered, uncounted_ready}
use Rattle.eu_core.proofs.RegisterLemmas.{joined_is}
use Rattle.eu_core.proofs.StepLemmas.{no_memory, refused_as}
use Rattle.eu_core.proofs.registry.Registry.registration.Goals as goal

pub returns-in_err-expected-clause-refused : goal.returns-in_err-expected-clause-refused
returns-in_err-expected-clause-refused c =
    let a = c.args in
    let n = a.instance.now in
    let f = c.in_err-expected.field-0.0 in
    refused_as c.from_residual.result f f _ c.from_residual.ensures.1 refl
    (register_refused n a.replicated a.moment a.self.now f (subst (λ o. IsRefusal o f) (sym (c.in_err-expected.ensures.refused n.key c.requires.held)) refl))

pub returns-in_err-decide_join-clause-refused : goal.returns-in_err-decide_join-clause-refused
returns-in_err-decide_join-clause-refused c =
    let a = c.args in
    let n = a.instance.now in
    no_memory c.from_residual-in_err-decide_join.result _ c.from_residual-in_err-decide_join.ensures.1
    (register_refused n a.replicated a.moment a.self.now OutOfMemory (subst (λ o. IsRefusal o OutOfMemory) (sym (c.in_ok-expected.ensures.ok n.key c.requires.held)) refl))

pub returns-clause-decides : goal.returns-clause-decides
returns-clause-decides c =
    let a = c.args in
    let p = a.self.now in
    let n = a.instance.now in
    let t = a.moment in
    let d = c.in_ok-decide_join.field-0 in
    let held = option_copied a.held in
    let ok = c.in_ok-expected.ensures in
    let joins = c.in_ok-decide_join.ensures.joins in
    record {
      answers = answered p (Register n a.replicated) t n.key d held _ (registers n a.replicated t p) c.requires.held
          (joined_is d held a.row p.expected c.in_ok-expected.expected n a.replicated t joins ok.expected)
          (λ i. plain_register (c.requires.held i) (c.requires.row i) p.expected n a.replicated t)
          (register_answers n a.replicated t p (ok.ok n.key c.requires.held));
      memory = register_refused n a.replicated t p OutOfMemory (subst (λ o. IsRefusal o OutOfMemory) (sym (ok.ok n.key c.requires.held)) refl);
      ready = record {
        new = c.in_ok-decide_join.ensures.new p.leases c.requires.held ok.few;
        bound = subst (λ e. e ≤ 2 ^ 40) (sym joins.expected_is) ok.bound;
        countable = uncounted_ready _ p.since joins.counted_is;
      };
    }

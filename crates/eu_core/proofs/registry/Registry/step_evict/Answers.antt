use Rattle.std.proofs.Common.{refl, ◌∙◌, ap, subst, sym}
use Rattle.std.specs.Prelude.{Ok, replicate}
use Rattle.eu_model.specs.declared.commands.Command.TheVariants.{Evict}
use Rattle.eu_model.specs.declared.commands.Reply.TheVariants.{Evicted}
use Rattle.eu_model.specs.Answers.{Answers}
use Rattle.eu_model.proofs.EvictLemmas.{evict_refused}
use Rattle.eu_core.proofs.StepLemmas.{no_memory}
use Rattle.eu_core.proofs.registry.Registry.step_evict.Goals as goal

pub split-requires : goal.split-requires
split-requires g c =
    let vs = c.in_ok-eviction.eviction.victims.items in
    (Evicted vs, c.args.logs, c.in_ok-eviction.ensures.replies ∙ ap (λ n. replicate n (Evicted vs)) c.replies_for.ensures)

pub returns-clause-ok : goal.returns-clause-ok
returns-clause-ok g c = λ m.
    let vs = c.in_ok-eviction.eviction.victims.items in
    let told = c.split.ensures (Evicted vs) c.args.logs refl (c.in_ok-eviction.ensures.replies ∙ ap (λ n. replicate n (Evicted vs)) c.replies_for.ensures) in
    let answer = told.0 in
    record {
      acts = record {
        answers = subst (λ r. Answers c.args.self.now Evict c.args.moment (Ok r) c.evict_due.new.self) (sym answer) c.in_ok-eviction.ensures.answers;
        same = told.1;
        held_are = c.new-2.ensures.items;
      };
      chooses = (vs, answer, c.in_ok-eviction.ensures.drawn);
    }

pub returns-in_err-before-clause-refused : goal.returns-in_err-before-clause-refused
returns-in_err-before-clause-refused g c = no_memory c.from_residual.result _ c.from_residual.ensures.1 (evict_refused c.args.moment c.args.self.now)

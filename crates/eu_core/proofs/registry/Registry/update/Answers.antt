use Rattle.std.proofs.Common.{◌≡◌, ap, sym, ◌∙◌, subst}
use Rattle.std.specs.Prelude.{Ok}
use Rattle.eu_model.specs.declared.commands.Command.TheVariants.{Update}
use Rattle.eu_model.specs.declared.commands.Reply.TheVariants.{Expected}
use Rattle.eu_model.specs.Machine.{expected_after}
use Rattle.eu_model.specs.Plain.{Plain}
use Rattle.eu_model.specs.Answers.{Answers}
use Rattle.eu_model.specs.PlainSteps.{plain_updated}
use Rattle.eu_model.proofs.MinuteLemmas.{update_answers}
use Rattle.eu_core.specs.Registry.{plain_of}
use Rattle.eu_core.proofs.RegisterLemmas.{moved}
use Rattle.eu_core.proofs.registry.Registry.update.Goals as goal

pub returns : goal.returns
returns c = λ t.
    let p = plain_of c.self.inside in
    let e = c.update.ensures in
    let n = ap (expected_after p.config p.expected) c.len.ensures.value in
    let whole : ◌≡◌ {A = Plain} (record p { config = c.update.new.self.config; expected = c.update.new.self.expected }) (record p { expected = plain_updated p }) =
    (λ i. record p { config = (e i).config; expected = (e i).expected }) ∙ (λ i. record p { expected = n i }) in
    let value = c.expected.ensures.value ∙ (λ i. (e i).expected) ∙ n in
    subst (λ m. Answers c.args.self.now Update t (Ok (Expected m)) (record p { config = c.update.new.self.config; expected = c.update.new.self.expected })) (sym value)
    (subst (λ q. Answers c.args.self.now Update t (Ok (Expected (plain_updated p))) q) (sym whole) (moved _ _ _ _ _ _ c.self.view_is (update_answers t p)))

use Rattle.std.proofs.Common.{◌≡◌, sym, subst}
use Rattle.std.specs.Prelude.{Ok}
use Rattle.eu_model.specs.declared.commands.Command.TheVariants.{Reconfigure}
use Rattle.eu_model.specs.declared.commands.Reply.TheVariants.{Done}
use Rattle.eu_model.specs.Plain.{Plain}
use Rattle.eu_model.specs.Answers.{Answers}
use Rattle.eu_model.specs.PlainSteps.{plain_reconfigured}
use Rattle.eu_model.proofs.MinuteLemmas.{reconfigure_answers}
use Rattle.eu_core.specs.Registry.{plain_of}
use Rattle.eu_core.proofs.RegisterLemmas.{moved}
use Rattle.eu_core.proofs.registry.Registry.reconfigure.Goals as goal

pub returns : goal.returns
returns c = λ t.
    let p = plain_of c.self.inside in
    let config = c.args.config in
    let e = c.reconfigure.ensures in
    let whole : ◌≡◌ {A = Plain} (record p { config = c.reconfigure.new.self.config; expected = c.reconfigure.new.self.expected }) (plain_reconfigured p config) =
    λ i. record p { config = (e i).config; expected = (e i).expected } in
    subst (λ q. Answers c.args.self.now (Reconfigure config) t (Ok Done) q) (sym whole) (moved _ _ _ _ _ _ c.self.view_is (reconfigure_answers config t p))

use Rattle.std.proofs.Common.{◌≡◌, sym, subst}
use Rattle.std.specs.Prelude.{Ok}
use Rattle.eu_model.specs.declared.commands.Command.TheVariants.{EndMinute}
use Rattle.eu_model.specs.declared.commands.Reply.TheVariants.{Last}
use Rattle.eu_model.specs.Plain.{Plain}
use Rattle.eu_model.specs.Answers.{Answers}
use Rattle.eu_model.specs.PlainSteps.{plain_after_minute}
use Rattle.eu_model.proofs.MinuteLemmas.{end_minute_answers}
use Rattle.eu_core.specs.Registry.{plain_of}
use Rattle.eu_core.proofs.RegisterLemmas.{moved}
use Rattle.eu_core.proofs.registry.Registry.end_minute.Goals as goal

pub returns : goal.returns
returns c = λ t.
    let p = plain_of c.self.inside in
    let counts = c.end_minute.ensures.counts in
    let whole : ◌≡◌ {A = Plain} (record p { last = c.end_minute.new.self.last; since = c.end_minute.new.self.since }) (plain_after_minute p) =
    λ i. record p { last = (counts i).last; since = (counts i).since } in
    subst (λ n. Answers c.args.self.now EndMinute t (Ok (Last n)) (record p { last = c.end_minute.new.self.last; since = c.end_minute.new.self.since })) (sym c.end_minute.ensures.value)
    (subst (λ q. Answers c.args.self.now EndMinute t (Ok (Last p.since)) q) (sym whole) (moved _ _ _ _ _ _ c.self.view_is (end_minute_answers t p)))

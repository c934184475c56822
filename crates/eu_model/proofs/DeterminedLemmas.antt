-- A command other than an eviction leads to one reply and one plain form
use Rattle.std.proofs.Common.{◌≡◌, ℕ, sym, ap, ◌∙◌}
use Rattle.std.specs.Prelude.{Ok}
use Rattle.eu_model.specs.declared.commands.Command.{Command}
use Rattle.eu_model.specs.declared.commands.Reply.{Reply}
use Rattle.eu_model.specs.Machine.{Machine}
use Rattle.eu_model.specs.Step.{Step}
use Rattle.eu_model.specs.Plain.{Plain, plain}
use Rattle.eu_model.specs.Answers.{IsAnswer, Answers}
use Rattle.eu_model.proofs.AnswerLemmas.{IsKept}
use Rattle.eu_model.proofs.RaiseLemmas.{raise}

-- some machine of that plain form takes the step
pub some_step : (c : Command) (t : ℕ) (p q : Plain) (r : Reply) → Answers p c t (Ok r) q
    → (s s' : Machine) × (plain s ≡ p) × Step s c t r s' × (plain s' ≡ q)
unfolding Answers IsAnswer
some_step c t p q r a = let m = raise p in let x = a m.0 m.1 in (m.0, x.1.0, m.1, x.1.1, x.1.2)

module _ (c : Command) (t : ℕ) (next : Machine → Machine) (reply : Machine → Reply) (plain_next : Plain → Plain) (plain_reply : Plain → Reply) (k : IsKept next reply plain_next plain_reply)
    (steps : (s s' : Machine) (r : Reply) → Step s c t r s' → (r ≡ reply s) × (s' ≡ next s)) (p q : Plain) (r : Reply) (a : Answers p c t (Ok r) q) where
  pub reply_is : r ≡ plain_reply p
  reply_is =
      let x = some_step c t p q r a in
      (steps x.0 x.1 r x.3).0 ∙ k.replies x.0 ∙ ap plain_reply x.2

  pub next_is : q ≡ plain_next p
  next_is =
      let x = some_step c t p q r a in
      sym x.4 ∙ ap plain (steps x.0 x.1 r x.3).1 ∙ k.nexts x.0 ∙ ap plain_next x.2

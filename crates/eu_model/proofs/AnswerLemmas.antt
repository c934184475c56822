-- A command whose reply, whose step and whose fault are functions of the plain form
use Rattle.std.proofs.Common.{◌≡◌, ℕ, refl, sym, ap, ◌∙◌, subst}
use Rattle.std.specs.Prelude.{Option, None, Ok, Err}
use Rattle.eu_base.specs.declared.faults.Fault.{Fault}
use Rattle.eu_model.specs.declared.commands.Command.{Command}
use Rattle.eu_model.specs.declared.commands.Reply.{Reply}
use Rattle.eu_model.specs.Machine.{Machine}
use Rattle.eu_model.specs.Step.{Step, fault}
use Rattle.eu_model.specs.Plain.{Plain, plain}
use Rattle.eu_model.specs.Answers.{IsRefusal, IsAnswer, Answers}

-- a step that is a function of the machine, and what it does to its plain form
pub record IsKept (next : Machine → Machine) (reply : Machine → Reply) (plain_next : Plain → Plain) (plain_reply : Plain → Reply) : Type 0 where
  pub nexts : (s : Machine) → plain (next s) ≡ plain_next (plain s)
  pub replies : (s : Machine) → reply s ≡ plain_reply (plain s)

module _ (c : Command) (t : ℕ) (next : Machine → Machine) (reply : Machine → Reply) (plain_next : Plain → Plain) (plain_reply : Plain → Reply) (plain_fault : Plain → Option Fault) where
  is_answered : IsKept next reply plain_next plain_reply → ((s : Machine) → Step s c t (reply s) (next s)) → ((s : Machine) → fault s c t ≡ plain_fault (plain s))
      → (s : Machine) → plain_fault (plain s) ≡ None → IsAnswer s c t (Ok (plain_reply (plain s))) (plain_next (plain s))
  unfolding IsAnswer
  is_answered k steps faults s ok = (faults s ∙ ok, (next s, subst (λ r. Step s c t r (next s)) (k.replies s) (steps s), k.nexts s))

  -- it is answered so, from each machine of that plain form
  pub answered : IsKept next reply plain_next plain_reply → ((s : Machine) → Step s c t (reply s) (next s)) → ((s : Machine) → fault s c t ≡ plain_fault (plain s))
      → (p : Plain) → plain_fault p ≡ None → Answers p c t (Ok (plain_reply p)) (plain_next p)
  unfolding Answers
  answered k steps faults p ok s e =
      subst (λ q. plain_fault q ≡ None → IsAnswer s c t (Ok (plain_reply q)) (plain_next q)) e (is_answered k steps faults s) ok

-- a command is refused so, from each machine of that plain form
pub refused : (c : Command) (t : ℕ) (plain_fault : Plain → Option Fault) → ((s : Machine) → fault s c t ≡ plain_fault (plain s))
    → (p : Plain) (f : Fault) → IsRefusal (plain_fault p) f → Answers p c t (Err f) p
unfolding Answers IsAnswer
refused c t plain_fault faults p f h s e =
    subst (λ q. IsRefusal (plain_fault q) f → IsAnswer s c t (Err f) q) e (λ g. (subst (λ o. IsRefusal o f) (sym (faults s)) g, refl)) h

-- it is made alike from machines of one plain form
module _ (next : Machine → Machine) (reply : Machine → Reply) (plain_next : Plain → Plain) (plain_reply : Plain → Reply) where
  pub alike : IsKept next reply plain_next plain_reply → (s s' : Machine) (r : Reply) (new : Machine) → plain s ≡ plain s' → (r ≡ reply s) × (new ≡ next s)
      → (new' : Machine) × ((r ≡ reply s') × (new' ≡ next s')) × (plain new' ≡ plain new)
  alike k s s' r new e step =
      let replies : reply s ≡ reply s' = k.replies s ∙ ap plain_reply e ∙ sym (k.replies s') in
      let nexts : plain (next s') ≡ plain (next s) = k.nexts s' ∙ ap plain_next (sym e) ∙ sym (k.nexts s) in
      (next s', (step.0 ∙ replies, refl), nexts ∙ sym (ap plain step.1))

-- A cancel depends on the plain form alone
use Rattle.std.proofs.Common.{◌≡◌, ℕ, Bool, refl, ap, ◌∙◌}
use Rattle.std.specs.Prelude.{Option, Some, None, Ok}
use Rattle.std.specs.Option.{option_map}
use Rattle.std.specs.FinMap.{get}
use Rattle.eu_base.specs.declared.names.Key.{Key}
use Rattle.eu_model.specs.declared.views.Listed.{Listed}
use Rattle.eu_model.specs.declared.commands.Command.TheVariants.{Cancel}
use Rattle.eu_model.specs.Machine.{Record, Machine}
use Rattle.eu_model.specs.Change.{Change, cancel}
use Rattle.eu_model.specs.Step.{changed}
use Rattle.eu_model.specs.Plain.{Plain, listed, plain}
use Rattle.eu_model.specs.Answers.{Answers}
use Rattle.eu_model.specs.PlainSteps.{plain_change, plain_cancel, after}
use Rattle.eu_model.proofs.ChangedLemmas.{held_of, change_is_kept}
use Rattle.eu_model.proofs.AnswerLemmas.{IsKept, answered}

cancel-kept : (held : Option Record) (expected : ℕ) → plain_change (cancel held expected) ≡ plain_cancel (option_map listed held) expected
cancel-kept None expected = refl
cancel-kept (Some r) expected = refl

module _ (k : Key) where
  -- the change that a cancel makes, in the machine and in its plain form
  abbrev pub cancel_change : Machine → Change Record
  cancel_change s = cancel (get s.leases k) s.expected

  abbrev pub cancels : Plain → Change Listed
  cancels p = plain_cancel (get p.leases k) p.expected

  cancel_change-kept : (s : Machine) → plain_change (cancel_change s) ≡ cancels (plain s)
  cancel_change-kept s = cancel-kept (get s.leases k) s.expected ∙ ap (λ held. plain_cancel held s.expected) (held_of s k)

  pub cancel_is_kept : IsKept (λ s. changed s k (cancel_change s)) (λ s. (cancel_change s).reply) (λ p. after p k (cancels p)) (λ p. (cancels p).reply)
  cancel_is_kept = change_is_kept k cancel_change cancels cancel_change-kept

  pub cancel_answers : (replicated : Bool) (t : ℕ) (p : Plain) → Answers p (Cancel k replicated) t (Ok (cancels p).reply) (after p k (cancels p))
  cancel_answers replicated t p = answered (Cancel k replicated) t _ _ _ _ (λ q. None) cancel_is_kept (λ s. (refl, refl)) (λ s. refl) p refl

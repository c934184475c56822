-- A registration depends on the plain form alone
use Rattle.std.proofs.Common.{◌≡◌, ℕ, Bool, refl, ap, ◌∙◌}
use Rattle.std.specs.Prelude.{Option, Some, None, Ok, Err}
use Rattle.std.specs.Option.{option_map}
use Rattle.std.specs.FinMap.{get}
use Rattle.eu_base.specs.declared.statuses.Status.{Status}
use Rattle.eu_base.specs.declared.faults.Fault.{Fault}
use Rattle.eu_base.specs.declared.instances.Instance.{Instance}
use Rattle.eu_model.specs.declared.views.Listed.{Listed}
use Rattle.eu_model.specs.declared.commands.Command.TheVariants.{Register}
use Rattle.eu_model.specs.Machine.{Record, Machine}
use Rattle.eu_model.specs.Change.{Change, register}
use Rattle.eu_model.specs.Step.{changed}
use Rattle.eu_model.specs.Plain.{Plain, listed, plain}
use Rattle.eu_model.specs.Answers.{IsRefusal, Answers}
use Rattle.eu_model.specs.PlainSteps.{plain_change, plain_register, after, plain_join_fault}
use Rattle.eu_model.proofs.ChangedLemmas.{held_of, change_is_kept, join_fault-kept}
use Rattle.eu_model.proofs.AnswerLemmas.{IsKept, answered, refused}

register-kept : (held : Option Record) (row : Option Status) (expected : ℕ) (n : Instance) (replicated : Bool) (t : ℕ) →
    plain_change (register held row expected n replicated t) ≡ plain_register (option_map listed held) row expected n replicated t
register-kept None row expected n replicated t = refl
register-kept (Some r) row expected n replicated t = refl

module _ (n : Instance) (replicated : Bool) (t : ℕ) where
  -- the change that a registration makes, in the machine and in its plain form
  abbrev pub register_change : Machine → Change Record
  register_change s = register (get s.leases n.key) (get s.overrides n.key.id) s.expected n replicated t

  abbrev pub registers : Plain → Change Listed
  registers p = plain_register (get p.leases n.key) (get p.overrides n.key.id) p.expected n replicated t

  pub register_change-kept : (s : Machine) → plain_change (register_change s) ≡ registers (plain s)
  register_change-kept s =
      register-kept (get s.leases n.key) (get s.overrides n.key.id) s.expected n replicated t
      ∙ ap (λ held. plain_register held (get s.overrides n.key.id) s.expected n replicated t) (held_of s n.key)

  pub register_is_kept : IsKept (λ s. changed s n.key (register_change s)) (λ s. (register_change s).reply) (λ p. after p n.key (registers p)) (λ p. (registers p).reply)
  register_is_kept = change_is_kept n.key register_change registers register_change-kept

  pub register_answers : (p : Plain) → plain_join_fault p n.key ≡ None → Answers p (Register n replicated) t (Ok (registers p).reply) (after p n.key (registers p))
  register_answers = answered (Register n replicated) t _ _ _ _ (λ p. plain_join_fault p n.key) register_is_kept (λ s. (refl, refl)) (λ s. join_fault-kept s n.key)

  pub register_refused : (p : Plain) (f : Fault) → IsRefusal (plain_join_fault p n.key) f → Answers p (Register n replicated) t (Err f) p
  register_refused = refused (Register n replicated) t (λ p. plain_join_fault p n.key) (λ s. join_fault-kept s n.key)

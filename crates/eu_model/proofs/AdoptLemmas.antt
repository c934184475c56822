-- An adoption depends on the plain form alone
use Rattle.std.proofs.Common.{◌≡◌, ℕ, refl, ap, ◌∙◌}
use Rattle.std.specs.Prelude.{Option, Some, None, Ok, Err}
use Rattle.std.specs.Option.{option_map}
use Rattle.std.specs.FinMap.{get}
use Rattle.eu_base.specs.declared.statuses.Status.{Status}
use Rattle.eu_base.specs.declared.faults.Fault.{Fault}
use Rattle.eu_base.specs.declared.instances.Instance.{Instance}
use Rattle.eu_model.specs.declared.views.Listed.{Listed}
use Rattle.eu_model.specs.declared.commands.Command.TheVariants.{Adopt}
use Rattle.eu_model.specs.Machine.{Record, Machine}
use Rattle.eu_model.specs.Change.{Change, adopt}
use Rattle.eu_model.specs.Step.{changed}
use Rattle.eu_model.specs.Plain.{Plain, listed, plain}
use Rattle.eu_model.specs.Answers.{IsRefusal, Answers}
use Rattle.eu_model.specs.PlainSteps.{plain_change, plain_adopt, after, plain_join_fault}
use Rattle.eu_model.proofs.ChangedLemmas.{held_of, change_is_kept, join_fault-kept}
use Rattle.eu_model.proofs.AnswerLemmas.{IsKept, answered, refused}

adopt-kept : (held : Option Record) (row : Option Status) (expected : ℕ) (n : Instance) (t : ℕ) →
    plain_change (adopt held row expected n t) ≡ plain_adopt (option_map listed held) row expected n t
adopt-kept None row expected n t = refl
adopt-kept (Some r) row expected n t = refl

module _ (n : Instance) (t : ℕ) where
  -- the change that an adoption makes, in the machine and in its plain form
  abbrev pub adopt_change : Machine → Change Record
  adopt_change s = adopt (get s.leases n.key) (get s.overrides n.key.id) s.expected n t

  abbrev pub adopts : Plain → Change Listed
  adopts p = plain_adopt (get p.leases n.key) (get p.overrides n.key.id) p.expected n t

  adopt_change-kept : (s : Machine) → plain_change (adopt_change s) ≡ adopts (plain s)
  adopt_change-kept s =
      adopt-kept (get s.leases n.key) (get s.overrides n.key.id) s.expected n t
      ∙ ap (λ held. plain_adopt held (get s.overrides n.key.id) s.expected n t) (held_of s n.key)

  pub adopt_is_kept : IsKept (λ s. changed s n.key (adopt_change s)) (λ s. (adopt_change s).reply) (λ p. after p n.key (adopts p)) (λ p. (adopts p).reply)
  adopt_is_kept = change_is_kept n.key adopt_change adopts adopt_change-kept

  pub adopt_answers : (p : Plain) → plain_join_fault p n.key ≡ None → Answers p (Adopt n) t (Ok (adopts p).reply) (after p n.key (adopts p))
  adopt_answers = answered (Adopt n) t _ _ _ _ (λ p. plain_join_fault p n.key) adopt_is_kept (λ s. (refl, refl)) (λ s. join_fault-kept s n.key)

  pub adopt_refused : (p : Plain) (f : Fault) → IsRefusal (plain_join_fault p n.key) f → Answers p (Adopt n) t (Err f) p
  adopt_refused = refused (Adopt n) t (λ p. plain_join_fault p n.key) (λ s. join_fault-kept s n.key)

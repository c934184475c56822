-- A step of the machine is one of its plain form, and the other way round
use Rattle.std.proofs.Common.{◌≡◌, ℕ, refl, sym, ap, ◌∙◌}
use Rattle.std.specs.Prelude.{None}
use Rattle.eu_model.specs.declared.commands.Command.{Command}
use Rattle.eu_model.specs.declared.commands.Command.TheVariants.{Register, Renew, Cancel, SetStatus, UnsetStatus, Adopt, EndMinute, Update, Reconfigure, Evict, Drain, Landed, Lost}
use Rattle.eu_model.specs.declared.commands.Reply.{Reply}
use Rattle.eu_model.specs.Machine.{Machine}
use Rattle.eu_model.specs.Step.{evicted, Step, fault}
use Rattle.eu_model.specs.Plain.{Plain, plain}
use Rattle.eu_model.proofs.AnswerLemmas.{IsKept}
use Rattle.eu_model.proofs.ChangedLemmas.{join_fault-kept}
use Rattle.eu_model.proofs.RegisterLemmas.{register_is_kept}
use Rattle.eu_model.proofs.RenewLemmas.{renew_is_kept, renew_fault-kept}
use Rattle.eu_model.proofs.CancelLemmas.{cancel_is_kept}
use Rattle.eu_model.proofs.StatusLemmas.{set_is_kept, unset_is_kept}
use Rattle.eu_model.proofs.AdoptLemmas.{adopt_is_kept}
use Rattle.eu_model.proofs.MinuteLemmas.{end_minute_is_kept, update_is_kept, reconfigure_is_kept}
use Rattle.eu_model.proofs.EvictLemmas.{victims-kept, victims-raised, plain-evicted}
use Rattle.eu_model.specs.PlainSteps.{PlainStep}

-- a step that is a function of the machine
module _ {next : Machine → Machine} {answer : Machine → Reply} {plain_next : Plain → Plain} {kept_answer : Plain → Reply} (k : IsKept next answer plain_next kept_answer) (s : Machine) where
  down : (reply : Reply) (new : Machine) → (reply ≡ answer s) × (new ≡ next s) → (reply ≡ kept_answer (plain s)) × (plain new ≡ plain_next (plain s))
  down reply new step = (step.0 ∙ k.replies s, ap plain step.1 ∙ k.nexts s)

  up : (reply : Reply) (q : Plain) → (reply ≡ kept_answer (plain s)) × (q ≡ plain_next (plain s))
      → (new : Machine) × ((reply ≡ answer s) × (new ≡ next s)) × (plain new ≡ q)
  up reply q step = (next s, (step.0 ∙ sym (k.replies s), refl), k.nexts s ∙ sym step.1)

pub step_down : (s : Machine) (c : Command) (t : ℕ) (reply : Reply) (new : Machine) → fault s c t ≡ None → Step s c t reply new → PlainStep (plain s) c t reply (plain new)
step_down s (Register n replicated) t reply new none step = (sym (join_fault-kept s n.key) ∙ none, down (register_is_kept n replicated t) s reply new step)
step_down s (Adopt n) t reply new none step = (sym (join_fault-kept s n.key) ∙ none, down (adopt_is_kept n t) s reply new step)
step_down s (Renew k last_dirty overridden replicated) t reply new none step =
    (sym (renew_fault-kept k last_dirty overridden replicated t s) ∙ none, down (renew_is_kept k last_dirty overridden replicated t) s reply new step)
step_down s (Cancel k replicated) t reply new none step = down (cancel_is_kept k) s reply new step
step_down s (SetStatus k status last_dirty replicated) t reply new none step = down (set_is_kept k status last_dirty t) s reply new step
step_down s (UnsetStatus k suggested last_dirty replicated) t reply new none step = down (unset_is_kept k suggested last_dirty t) s reply new step
step_down s EndMinute t reply new none step = down end_minute_is_kept s reply new step
step_down s Update t reply new none step = down update_is_kept s reply new step
step_down s (Reconfigure config) t reply new none step = down (reconfigure_is_kept config) s reply new step
step_down s Evict t reply new none step =
    (step.0, step.1, victims-kept s t step.0 step.2, ap plain step.3 ∙ plain-evicted s t step.0)
step_down s (Drain peer) t reply new none step = step
step_down s (Landed peer codes) t reply new none step = step
step_down s (Lost peer) t reply new none step = step

-- what a step of a plain form comes from
abbrev pub Raised : Machine → Command → ℕ → Reply → Plain → Type 0
Raised s c t reply q = (fault s c t ≡ None) × ((new : Machine) × Step s c t reply new × (plain new ≡ q))

pub step_up : (s : Machine) (c : Command) (t : ℕ) (reply : Reply) (q : Plain) → PlainStep (plain s) c t reply q → Raised s c t reply q
step_up s (Register n replicated) t reply q step = (join_fault-kept s n.key ∙ step.0, up (register_is_kept n replicated t) s reply q step.1)
step_up s (Adopt n) t reply q step = (join_fault-kept s n.key ∙ step.0, up (adopt_is_kept n t) s reply q step.1)
step_up s (Renew k last_dirty overridden replicated) t reply q step =
    (renew_fault-kept k last_dirty overridden replicated t s ∙ step.0, up (renew_is_kept k last_dirty overridden replicated t) s reply q step.1)
step_up s (Cancel k replicated) t reply q step = (refl, up (cancel_is_kept k) s reply q step)
step_up s (SetStatus k status last_dirty replicated) t reply q step = (refl, up (set_is_kept k status last_dirty t) s reply q step)
step_up s (UnsetStatus k suggested last_dirty replicated) t reply q step = (refl, up (unset_is_kept k suggested last_dirty t) s reply q step)
step_up s EndMinute t reply q step = (refl, up end_minute_is_kept s reply q step)
step_up s Update t reply q step = (refl, up update_is_kept s reply q step)
step_up s (Reconfigure config) t reply q step = (refl, up (reconfigure_is_kept config) s reply q step)
step_up s Evict t reply q step =
    (refl, (evicted s t step.0, (step.0, step.1, victims-raised s t step.0 step.2, refl), plain-evicted s t step.0 ∙ sym step.3))
step_up s (Drain peer) t reply q step = absurd step
step_up s (Landed peer codes) t reply q step = absurd step
step_up s (Lost peer) t reply q step = absurd step

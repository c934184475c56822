-- What is decided of a renewal is the rule book's change
use Rattle.std.proofs.Common.{◌≡◌, ℕ, ◌≤◌, ◌^◌, Bool, false, refl, sym, ap, ◌∙◌, subst}
use Rattle.std.specs.Prelude.{Option, None, Result, Ok, Err, IfOk, IfErr, OnOk}
use Rattle.eu_base.specs.declared.statuses.Status.{Status}
use Rattle.std.specs.FinMap.{get}
use Rattle.eu_base.specs.declared.faults.Fault.{Fault}
use Rattle.eu_base.specs.declared.faults.Fault.TheVariants.{OutOfMemory}
use Rattle.eu_base.specs.declared.names.Key.{Key}
use Rattle.eu_model.specs.declared.views.Listed.{Listed}
use Rattle.eu_model.specs.Change.{Change}
use Rattle.eu_model.specs.declared.commands.Command.TheVariants.{Renew}
use Rattle.eu_model.specs.Answers.{Answers, IsRefusal}
use Rattle.eu_model.specs.Plain.{Plain}
use Rattle.eu_model.specs.PlainSteps.{plain_renew, plain_renew_fault}
use Rattle.eu_model.proofs.RenewLemmas.{renews, renew_answers, renew_refused}
use Rattle.eu_lease.specs.Meter.{Counted}
use Rattle.eu_core.specs.declared.decision.Decision.{Decision}
use Rattle.eu_core.specs.Decided.{count_fault, counted, begins, Decides, IsChange}
use Rattle.eu_core.proofs.DecidedLemmas.{answers_at, ready_in_place}

-- ---- what is decided, where a registry is renewed

module _ (p : Plain) (k : Key) (last_dirty : Option ℕ) (overridden : Option Status) (r : Bool) (t : ℕ) (decision : Result Decision Fault)
    (held : Option Listed) (row : Option Status) (x : ℕ) (y : Counted)
    (at : held ≡ get p.leases k) (has : row ≡ get p.overrides k.id) (ex : x ≡ p.expected) (counts : y ≡ counted p) where
  abbrev changes : ℕ → Change Listed
  changes e = plain_renew held row e last_dirty overridden r t

  same : changes p.expected ≡ renews k last_dirty overridden r t p
  same i = plain_renew (at i) (has i) p.expected last_dirty overridden r t

  fault : count_fault (changes x).counted y.since ≡ plain_renew_fault p (renews k last_dirty overridden r t p).counted
  fault =
      (λ i. count_fault (changes (ex i)).counted (counts i).since)
      ∙ ap (λ (z : Change Listed). count_fault z.counted p.since) same

  pub renewal_decides : IfOk decision (λ d. IsChange d held (changes x)) → OnOk decision (count_fault (changes x).counted y.since ≡ None) → IfOk decision (λ d. begins d.change.lease ≡ false) → IfOk decision (λ d. d.change.expected ≤ 2 ^ 40)
      → IfOk decision (Decides p (Renew k last_dirty overridden r) t k)
  renewal_decides = by decision
    where
      by : (z : Result Decision Fault) → IfOk z (λ d. IsChange d held (changes x)) → OnOk z (count_fault (changes x).counted y.since ≡ None) → IfOk z (λ d. begins d.change.lease ≡ false) → IfOk z (λ d. d.change.expected ≤ 2 ^ 40)
          → IfOk z (Decides p (Renew k last_dirty overridden r) t k)
      by (Err f) h none in_place bound = tt
      by (Ok d) h none in_place bound = record {
        answers = answers_at p (Renew k last_dirty overridden r) t k d held x changes (renews k last_dirty overridden r t p) at ex h same (renew_answers k last_dirty overridden r t p (sym fault ∙ none));
        memory = renew_refused k last_dirty overridden r t p OutOfMemory (subst (λ o. IsRefusal o OutOfMemory) (sym (sym fault ∙ none)) refl);
        ready = ready_in_place p k d.change in_place bound ((λ i. count_fault (h.counted_is i) ((sym counts) i).since) ∙ none);
      }

  pub renewal_refused : IfErr decision (λ f. IsRefusal (count_fault (changes x).counted y.since) f) → IfErr decision (λ f. Answers p (Renew k last_dirty overridden r) t (Err f) p)
  renewal_refused = by decision
    where
      by : (z : Result Decision Fault) → IfErr z (λ f. IsRefusal (count_fault (changes x).counted y.since) f) → IfErr z (λ f. Answers p (Renew k last_dirty overridden r) t (Err f) p)
      by (Ok d) h = tt
      by (Err f) h = renew_refused k last_dirty overridden r t p f (subst (λ o. IsRefusal o f) fault h)

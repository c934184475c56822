-- A renewal depends on the plain form alone
use Rattle.std.proofs.Common.{◌≡◌, ℕ, Bool, true, false, refl, ap, ◌∙◌}
use Rattle.std.specs.Prelude.{cond, Option, Some, None, ◌&&◌, ◌==◌, ◌^◌, Ok, Err}
use Rattle.std.specs.Option.{option_map}
use Rattle.std.specs.FinMap.{get}
use Rattle.eu_base.specs.declared.statuses.Status.{Status}
use Rattle.eu_base.specs.declared.statuses.Status.TheVariants.{Unknown}
use Rattle.eu_base.specs.declared.faults.Fault.{Fault}
use Rattle.eu_base.specs.declared.faults.Fault.TheVariants.{Exhausted}
use Rattle.eu_base.specs.declared.instances.Instance.{Instance}
use Rattle.eu_base.specs.declared.names.Key.{Key}
use Rattle.eu_model.specs.declared.views.Listed.{Listed}
use Rattle.eu_model.specs.declared.commands.Command.TheVariants.{Renew}
use Rattle.eu_model.specs.declared.commands.Reply.TheVariants.{NotFound}
use Rattle.eu_model.specs.Machine.{Record, since, Machine}
use Rattle.eu_model.specs.Change.{rule, is_status, Change, uncounted, renew, renew_as, renew_reply, row_of_peer, under_row}
use Rattle.eu_model.specs.Step.{fault, changed}
use Rattle.eu_model.specs.Plain.{Plain, listed, plain}
use Rattle.eu_model.specs.Answers.{IsRefusal, Answers}
use Rattle.eu_model.specs.PlainSteps.{raised, plain_change, plain_renew, after, plain_renew_fault}
use Rattle.eu_model.proofs.RecordLemmas.{renewed_alike}
use Rattle.eu_model.proofs.ChangedLemmas.{held_of, change_is_kept}
use Rattle.eu_model.proofs.AnswerLemmas.{IsKept, answered, refused}

module _ (row : Option Status) (expected : ℕ) (last_dirty : Option ℕ) (overridden : Option Status) (replicated : Bool) (t : ℕ) where
  renew_as-kept : (r : Record) (status : Status) →
      plain_change (renew_as r row expected last_dirty overridden replicated t status) ≡ plain_change (renew_as (raised (listed r)) row expected last_dirty overridden replicated t status)
  renew_as-kept r status =
      let i : Instance = record r.instance { status = status } in
      let j = under_row (row_of_peer (renew_reply last_dirty i replicated) replicated overridden row) i in
      let lease = ap Some (renewed_alike r t j r.up) in
      λ x. record (plain_change (renew_as r row expected last_dirty overridden replicated t status)) { lease = lease x }

  renew-kept : (held : Option Record) → plain_change (renew held row expected last_dirty overridden replicated t) ≡ plain_renew (option_map listed held) row expected last_dirty overridden replicated t
  renew-kept None = refl
  renew-kept (Some r) =
      let status = rule r.instance.status row (Some r.instance.status) replicated in
      elim (is_status status Unknown) as (λ b.
      plain_change (cond b (uncounted (Some r) row expected NotFound) (renew_as r row expected last_dirty overridden replicated t status))
      ≡ plain_change (cond b (uncounted (Some (raised (listed r))) row expected NotFound) (renew_as (raised (listed r)) row expected last_dirty overridden replicated t status))) [
        | true ↦ refl
        | false ↦ renew_as-kept r status
      ]

module _ (k : Key) (last_dirty : Option ℕ) (overridden : Option Status) (replicated : Bool) (t : ℕ) where
  -- the change that a renewal makes, in the machine and in its plain form
  abbrev pub renew_change : Machine → Change Record
  renew_change s = renew (get s.leases k) (get s.overrides k.id) s.expected last_dirty overridden replicated t

  abbrev pub renews : Plain → Change Listed
  renews p = plain_renew (get p.leases k) (get p.overrides k.id) p.expected last_dirty overridden replicated t

  pub renew_change-kept : (s : Machine) → plain_change (renew_change s) ≡ renews (plain s)
  renew_change-kept s =
      renew-kept (get s.overrides k.id) s.expected last_dirty overridden replicated t (get s.leases k)
      ∙ ap (λ held. plain_renew held (get s.overrides k.id) s.expected last_dirty overridden replicated t) (held_of s k)

  pub renew_fault-kept : (s : Machine) → fault s (Renew k last_dirty overridden replicated) t ≡ plain_renew_fault (plain s) (renews (plain s)).counted
  renew_fault-kept s = ap (λ (c : Change Listed). cond (c.counted && (since s.marks == 2 ^ 62)) (Some Exhausted) None) (renew_change-kept s)

  pub renew_is_kept : IsKept (λ s. changed s k (renew_change s)) (λ s. (renew_change s).reply) (λ p. after p k (renews p)) (λ p. (renews p).reply)
  renew_is_kept = change_is_kept k renew_change renews renew_change-kept

  pub renew_answers : (p : Plain) → plain_renew_fault p (renews p).counted ≡ None → Answers p (Renew k last_dirty overridden replicated) t (Ok (renews p).reply) (after p k (renews p))
  renew_answers =
      answered (Renew k last_dirty overridden replicated) t _ _ _ _ (λ p. plain_renew_fault p (renews p).counted) renew_is_kept (λ s. (refl, refl)) renew_fault-kept

  pub renew_refused : (p : Plain) (f : Fault) → IsRefusal (plain_renew_fault p (renews p).counted) f → Answers p (Renew k last_dirty overridden replicated) t (Err f) p
  renew_refused = refused (Renew k last_dirty overridden replicated) t (λ p. plain_renew_fault p (renews p).counted) renew_fault-kept

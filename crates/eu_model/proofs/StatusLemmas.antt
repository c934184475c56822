-- A status that is set or unset depends on the plain form alone
use Rattle.std.proofs.Common.{◌≡◌, ℕ, Bool, true, false, refl, ap, ◌∙◌}
use Rattle.std.specs.Prelude.{cond, Option, Some, None, Ok, Err}
use Rattle.std.specs.Option.{option_map}
use Rattle.std.specs.FinMap.{get}
use Rattle.eu_base.specs.declared.statuses.Status.{Status}
use Rattle.eu_base.specs.declared.faults.Fault.TheVariants.{OutOfMemory}
use Rattle.eu_base.specs.declared.instances.Instance.{Instance}
use Rattle.eu_base.specs.declared.names.Key.{Key}
use Rattle.eu_model.specs.declared.views.Listed.{Listed}
use Rattle.eu_model.specs.declared.commands.Command.TheVariants.{SetStatus, UnsetStatus}
use Rattle.eu_model.specs.declared.commands.Reply.{Reply}
use Rattle.eu_model.specs.declared.commands.Reply.TheVariants.{Done, NotFound}
use Rattle.eu_model.specs.Machine.{Record, renewed, Machine, visible}
use Rattle.eu_model.specs.Change.{is_status, Change, uncounted, in_status, out_of_override, set_status, unset_status}
use Rattle.eu_model.specs.Step.{changed}
use Rattle.eu_model.specs.Plain.{Plain, listed, plain}
use Rattle.eu_model.specs.Answers.{Answers}
use Rattle.eu_model.specs.PlainSteps.{raised, plain_change, plain_one, plain_set_status, plain_unset_status, after}
use Rattle.eu_model.proofs.RecordLemmas.{renewed_alike}
use Rattle.eu_model.proofs.SeenLemmas.{one-kept}
use Rattle.eu_model.proofs.ChangedLemmas.{held_of, change_is_kept}
use Rattle.eu_model.proofs.AnswerLemmas.{IsKept, answered, refused}

module _ (row : Option Status) (expected : ℕ) where
  left-kept : (held : Option Record) (reply : Reply) → plain_change (uncounted held row expected reply) ≡ plain_change (uncounted (option_map raised (option_map listed held)) row expected reply)
  left-kept None reply = refl
  left-kept (Some r) reply = refl

  renewed-kept : (r : Record) (t : ℕ) (i : Instance) (up : ℕ) →
      plain_change (uncounted (Some (record (renewed r t) { instance = i; up = up })) row expected Done)
      ≡ plain_change (uncounted (Some (record (renewed (raised (listed r)) t) { instance = i; up = up })) row expected Done)
  renewed-kept r t i up =
      let lease = ap Some (renewed_alike r t i up) in
      λ x. record (plain_change (uncounted (Some (record (renewed r t) { instance = i; up = up })) row expected Done)) { lease = lease x }

set-kept : (seen held : Option Record) (row : Option Status) (expected : ℕ) (status : Status) (last_dirty : Option ℕ) (t : ℕ) →
    plain_change (set_status seen held row expected status last_dirty t) ≡ plain_set_status (option_map listed seen) (option_map listed held) row expected status last_dirty t
set-kept None held row expected status last_dirty t = left-kept row expected held NotFound
set-kept (Some r) held row expected status last_dirty t =
    elim (is_status r.instance.status status) as (λ b.
    plain_change (cond b (uncounted (Some (renewed r t)) row expected Done) (uncounted (Some (in_status r status last_dirty t)) (Some status) expected Done))
    ≡ plain_change (cond b (uncounted (Some (renewed (raised (listed r)) t)) row expected Done) (uncounted (Some (in_status (raised (listed r)) status last_dirty t)) (Some status) expected Done))) [
      | true ↦ renewed-kept row expected r t r.instance r.up
      | false ↦ renewed-kept (Some status) expected r t (in_status r status last_dirty t).instance (in_status r status last_dirty t).up
    ]

unset-kept : (seen held : Option Record) (row : Option Status) (expected : ℕ) (suggested : Option Status) (last_dirty : Option ℕ) (t : ℕ) →
    plain_change (unset_status seen held row expected suggested last_dirty t) ≡ plain_unset_status (option_map listed seen) (option_map listed held) row expected suggested last_dirty t
unset-kept None held row expected suggested last_dirty t = left-kept row expected held NotFound
unset-kept (Some r) held None expected suggested last_dirty t = renewed-kept None expected r t r.instance r.up
unset-kept (Some r) held (Some row) expected suggested last_dirty t = renewed-kept None expected r t (out_of_override r suggested last_dirty t).instance r.up

module _ (k : Key) (status : Status) (last_dirty : Option ℕ) (t : ℕ) where
  -- the change that a status makes that is set, in the machine and in its plain form
  abbrev pub set_change : Machine → Change Record
  set_change s = set_status (visible s k t) (get s.leases k) (get s.overrides k.id) s.expected status last_dirty t

  abbrev pub sets : Plain → Change Listed
  sets p = plain_set_status (plain_one p k t) (get p.leases k) (get p.overrides k.id) p.expected status last_dirty t

  set_change-kept : (s : Machine) → plain_change (set_change s) ≡ sets (plain s)
  set_change-kept s =
      set-kept (visible s k t) (get s.leases k) (get s.overrides k.id) s.expected status last_dirty t
      ∙ (λ i. plain_set_status (one-kept s k t i) (held_of s k i) (get s.overrides k.id) s.expected status last_dirty t)

  pub set_is_kept : IsKept (λ s. changed s k (set_change s)) (λ s. (set_change s).reply) (λ p. after p k (sets p)) (λ p. (sets p).reply)
  set_is_kept = change_is_kept k set_change sets set_change-kept

  pub set_answers : (replicated : Bool) (p : Plain) → Answers p (SetStatus k status last_dirty replicated) t (Ok (sets p).reply) (after p k (sets p))
  set_answers replicated p = answered (SetStatus k status last_dirty replicated) t _ _ _ _ (λ q. None) set_is_kept (λ s. (refl, refl)) (λ s. refl) p refl

  -- it finds no memory
  pub set_refused : (replicated : Bool) (p : Plain) → Answers p (SetStatus k status last_dirty replicated) t (Err OutOfMemory) p
  set_refused replicated p = refused (SetStatus k status last_dirty replicated) t (λ q. None) (λ s. refl) p OutOfMemory refl

module _ (k : Key) (suggested : Option Status) (last_dirty : Option ℕ) (t : ℕ) where
  -- the change that a status makes that is unset, in the machine and in its plain form
  abbrev pub unset_change : Machine → Change Record
  unset_change s = unset_status (visible s k t) (get s.leases k) (get s.overrides k.id) s.expected suggested last_dirty t

  abbrev pub unsets : Plain → Change Listed
  unsets p = plain_unset_status (plain_one p k t) (get p.leases k) (get p.overrides k.id) p.expected suggested last_dirty t

  unset_change-kept : (s : Machine) → plain_change (unset_change s) ≡ unsets (plain s)
  unset_change-kept s =
      unset-kept (visible s k t) (get s.leases k) (get s.overrides k.id) s.expected suggested last_dirty t
      ∙ (λ i. plain_unset_status (one-kept s k t i) (held_of s k i) (get s.overrides k.id) s.expected suggested last_dirty t)

  pub unset_is_kept : IsKept (λ s. changed s k (unset_change s)) (λ s. (unset_change s).reply) (λ p. after p k (unsets p)) (λ p. (unsets p).reply)
  unset_is_kept = change_is_kept k unset_change unsets unset_change-kept

  pub unset_answers : (replicated : Bool) (p : Plain) → Answers p (UnsetStatus k suggested last_dirty replicated) t (Ok (unsets p).reply) (after p k (unsets p))
  unset_answers replicated p = answered (UnsetStatus k suggested last_dirty replicated) t _ _ _ _ (λ q. None) unset_is_kept (λ s. (refl, refl)) (λ s. refl) p refl

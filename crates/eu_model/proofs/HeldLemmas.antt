-- Each lease that is held came once, and hasn't gone
use Rattle.std.proofs.Common.{◌≡◌, ℕ, zero, suc, ◌+◌, ◌-◌, T, ◌≤◌, ◌<◌, List, [], ◌∷◌, length, refl, sym, ap, ◌∙◌, subst, true, false, arith, get_or}
use Rattle.std.specs.Prelude.{Bool, cond, ◌&&◌, not, Option, Some, None, is_some}
use Rattle.std.specs.List.{IsDistinct, AllByRecursion}
use Rattle.std.specs.Option.{option_map}
use Rattle.std.specs.Ordering.{eq_by_cmp}
use Rattle.std.specs.FinMap.{FinMap, get, insert, remove, len, entries, get-entries, get-remove, len-entries, len-insert, len-remove}
use Rattle.std.specs.FinMap.Entries.{find}
use Rattle.std.proofs.lemmas.List.Elements.{Contains-get_or}
use Rattle.std.proofs.lemmas.Map.Keys.{IsDistinct-head, IsDistinct-tail}
use Rattle.eu_base.specs.declared.instances.Instance.{Instance}
use Rattle.eu_base.specs.declared.names.Key.{Key}
use Rattle.eu_base.specs.declared.statuses.Status.{Status}
use Rattle.eu_base.specs.declared.statuses.Status.TheVariants.{Unknown}
use Rattle.eu_base.specs.Values.{key_cmp, key_eq}
use Rattle.eu_base.proofs.KeyLemmas.{keys_total, key_eq-ties, key_eq-flips}
use Rattle.eu_model.specs.declared.commands.Command.TheVariants.{Register, Renew, Cancel, SetStatus, UnsetStatus, Adopt, Evict, Drain, Landed, Lost}
use Rattle.eu_model.specs.declared.commands.Reply.TheVariants.{Registered, Done, NotFound}
use Rattle.eu_model.specs.Change.{uncounted, renew, renew_as, set_status, unset_status, in_status, cancel, row_of, overridden_by, rule, is_status}
use Rattle.eu_model.specs.Delta.{added_by, removed_by}
use Rattle.eu_model.specs.Law.{LeasesAreAccounted}
use Rattle.eu_model.specs.Machine.{Machine, seen, permits, with_value, without, Record, is_expired, renewed}
use Rattle.eu_model.proofs.EvictionLemmas.{victims_have_expired}

-- ---- how many leases a map holds

pub apart : (v : Key) (ks : List Key) → AllByRecursion (λ y. key_eq v y ≡ false) ks → (i : ℕ) (d : Key) → i < length ks → eq_by_cmp key_cmp (get_or ks i d) v ≡ false
apart v [] all i d lt = absurd (omega (arith, lt))
apart v (k ∷ ks) all zero d lt = sym (key_eq-ties k v) ∙ key_eq-flips k v ∙ all.0
apart v (k ∷ ks) all (suc i) d lt = apart v ks all.1 i d (omega (arith, lt))

module _ {X : Type 0} where
  grows : (m : FinMap key_cmp X) (k : Key) (v : X) (held : Option X) → get m k ≡ held → len (insert m k v) ≡ cond (is_some held) (len m) (len m + 1)
  grows m k v held at = len-insert keys_total m k v ∙ ap (λ o. cond (is_some o) (len m) (len m + 1)) at

  -- a change of a lease that is held, or of none where none is, leaves as many
  stays : (m : FinMap key_cmp X) (k : Key) (held v : Option X) → get m k ≡ held → is_some v ≡ is_some held → len (with_value m k v) ≡ len m
  stays m k held None at same = len-remove keys_total m k ∙ ap (λ o. cond (is_some o) (len m - 1) (len m)) at ∙ ap (λ b. cond b (len m - 1) (len m)) (sym same)
  stays m k held (Some v) at same = grows m k v held at ∙ ap (λ b. cond b (len m) (len m + 1)) (sym same)

  some_entry : (k : Key) (es : List (Key × X)) → is_some (find key_cmp k es) ≡ true → 1 ≤ length es
  some_entry k [] is = absurd (subst T (sym is) tt)
  some_entry k (e ∷ es) is = omega (arith)

  positive : (m : FinMap key_cmp X) (k : Key) → is_some (get m k) ≡ true → 1 ≤ len m
  positive m k is = subst (λ n. 1 ≤ n) (sym (len-entries m)) (some_entry k (entries m) (ap is_some (sym (get-entries m k)) ∙ is))

  goes : (m : FinMap key_cmp X) (k : Key) → is_some (get m k) ≡ true → len (remove m k) + 1 ≡ len m
  goes m k is = omega (arith, len-remove keys_total m k ∙ ap (λ b. cond b (len m - 1) (len m)) is, positive m k is)

  -- distinct keys that are held go, each once
  all_go : (m : FinMap key_cmp X) (ks : List Key) → IsDistinct key_eq ks → ((i : ℕ) (d : Key) → i < length ks → is_some (get m (get_or ks i d)) ≡ true) → len (without m ks) + length ks ≡ len m
  all_go m [] once all = omega (arith)
  all_go m (k ∷ ks) once all =
      let first = all 0 k (omega (arith)) in
      let others = λ (i : ℕ) (d : Key) (lt : i < length ks).
      ap is_some (get-remove keys_total m k (get_or ks i d))
      ∙ ap (λ b. is_some (cond b None (get m (get_or ks i d)))) (apart k ks (IsDistinct-head key_eq k ks once) i d lt)
      ∙ all (suc i) d (omega (arith, lt)) in
      omega (arith, all_go (remove m k) ks (IsDistinct-tail key_eq k ks once) others, goes m k first)

-- ---- the steps

renew_holds : (held : Option Record) (row : Option Status) (expected : ℕ) (last_dirty : Option ℕ) (overridden : Option Status) (replicated : Bool) (t : ℕ)
    → is_some (renew held row expected last_dirty overridden replicated t).lease ≡ is_some held
renew_holds None row expected last_dirty overridden replicated t = refl
renew_holds (Some r) row expected last_dirty overridden replicated t =
    let status = rule r.instance.status row (Some r.instance.status) replicated in
    elim (is_status status Unknown) as (λ b. is_some (cond b (uncounted (Some r) row expected NotFound) (renew_as r row expected last_dirty overridden replicated t status)).lease ≡ true) [ true ↦ refl | false ↦ refl ]

set_holds : (permitted : Bool) (held : Option Record) (row : Option Status) (expected : ℕ) (status : Status) (last_dirty : Option ℕ) (t : ℕ)
    → is_some (set_status (seen permitted t held) held row expected status last_dirty t).lease ≡ is_some held
set_holds permitted None row expected status last_dirty t = refl
set_holds permitted (Some r) row expected status last_dirty t =
    elim (permitted && is_expired r t 0) as (λ b. is_some (set_status (cond b None (Some r)) (Some r) row expected status last_dirty t).lease ≡ true) [
      | true ↦ refl
      | false ↦ elim (is_status r.instance.status status) as (λ b. is_some (cond b (uncounted (Some (renewed r t)) row expected Done) (uncounted (Some (in_status r status last_dirty t)) (Some status) expected Done)).lease ≡ true) [ true ↦ refl | false ↦ refl ]
    ]

unset_holds : (permitted : Bool) (held : Option Record) (row : Option Status) (expected : ℕ) (suggested : Option Status) (last_dirty : Option ℕ) (t : ℕ)
    → is_some (unset_status (seen permitted t held) held row expected suggested last_dirty t).lease ≡ is_some held
unset_holds permitted None row expected suggested last_dirty t = refl
unset_holds permitted (Some r) None expected suggested last_dirty t =
    elim (permitted && is_expired r t 0) as (λ b. is_some (unset_status (cond b None (Some r)) (Some r) None expected suggested last_dirty t).lease ≡ true) [ true ↦ refl | false ↦ refl ]
unset_holds permitted (Some r) (Some row) expected suggested last_dirty t =
    elim (permitted && is_expired r t 0) as (λ b. is_some (unset_status (cond b None (Some r)) (Some r) (Some row) expected suggested last_dirty t).lease ≡ true) [ true ↦ refl | false ↦ refl ]

abbrev came : Bool → ℕ
came held = cond held 0 1

joins : (m : FinMap key_cmp Record) (k : Key) (v : Record) (held : Option Record) → get m k ≡ held → len (insert m k v) + 0 ≡ len m + came (is_some held)
joins m k v None at = omega (arith, grows m k v None at)
joins m k v (Some r) at = omega (arith, grows m k v (Some r) at)

registered : (n : Instance) (replicated b : Bool) → added_by (Register n replicated) (Registered (not b)) ≡ came b
registered n replicated true = refl
registered n replicated false = refl

adopted : (n : Instance) (b : Bool) → added_by (Adopt n) (Registered (not b)) ≡ came b
adopted n true = refl
adopted n false = refl

same_held : (f : Record → Record) (held : Option Record) → is_some (option_map f held) ≡ is_some held
same_held f None = refl
same_held f (Some r) = refl

cancels : (s : Machine) (k : Key) (replicated : Bool) (held : Option Record) → get s.leases k ≡ held
    → len (with_value s.leases k (cancel held s.expected).lease) + removed_by (Cancel k replicated) (cancel held s.expected).reply ≡ len s.leases + 0
cancels s k replicated None at = omega (arith, stays s.leases k None None at refl)
cancels s k replicated (Some r) at = omega (arith, goes s.leases k (ap is_some at))

pub leases_are_accounted : LeasesAreAccounted
leases_are_accounted s (Register n replicated) t reply new step =
    let held = get s.leases n.key in
    ap (λ m. len m.leases + 0) step.1 ∙ joins s.leases n.key _ held refl
    ∙ ap (λ x. len s.leases + x) (sym (registered n replicated (is_some held))) ∙ ap (λ r. len s.leases + added_by (Register n replicated) r) (sym step.0)
leases_are_accounted s (Adopt n) t reply new step =
    let held = get s.leases n.key in
    let before = option_map (overridden_by (row_of n.overridden)) held in
    ap (λ m. len m.leases + 0) step.1 ∙ joins s.leases n.key _ held refl
    ∙ ap (λ b. len s.leases + came b) (sym (same_held (overridden_by (row_of n.overridden)) held))
    ∙ ap (λ x. len s.leases + x) (sym (adopted n (is_some before))) ∙ ap (λ r. len s.leases + added_by (Adopt n) r) (sym step.0)
leases_are_accounted s (Renew k last_dirty overridden replicated) t reply new step =
    let held = get s.leases k in
    omega (arith, ap (λ m. len m.leases) step.1 ∙ stays s.leases k held _ refl (renew_holds held (get s.overrides k.id) s.expected last_dirty overridden replicated t))
leases_are_accounted s (Cancel k replicated) t reply new step =
    let held = get s.leases k in
    ap (λ m. len m.leases + removed_by (Cancel k replicated) reply) step.1
    ∙ ap (λ r. len (with_value s.leases k (cancel held s.expected).lease) + removed_by (Cancel k replicated) r) step.0 ∙ cancels s k replicated held refl
leases_are_accounted s (SetStatus k status last_dirty replicated) t reply new step =
    let held = get s.leases k in
    omega (arith, ap (λ m. len m.leases) step.1 ∙ stays s.leases k held _ refl (set_holds (permits s) held (get s.overrides k.id) s.expected status last_dirty t))
leases_are_accounted s (UnsetStatus k suggested last_dirty replicated) t reply new step =
    let held = get s.leases k in
    omega (arith, ap (λ m. len m.leases) step.1 ∙ stays s.leases k held _ refl (unset_holds (permits s) held (get s.overrides k.id) s.expected suggested last_dirty t))
leases_are_accounted s Evict t reply new step =
    let victims = step.0 in
    let held = λ (i : ℕ) (d : Key) (lt : i < length victims). ap is_some (victims_have_expired s t victims new (victims, refl, step.2, step.3) (get_or victims i d) (Contains-get_or victims i d lt)).1 in
    ap (λ m. len m.leases + removed_by Evict reply) step.3
    ∙ ap (λ r. len (without s.leases victims) + removed_by Evict r) step.1
    ∙ omega (arith, all_go s.leases victims step.2.once held)
leases_are_accounted s (Drain peer) t reply new step = absurd step
leases_are_accounted s (Landed peer codes) t reply new step = absurd step
leases_are_accounted s (Lost peer) t reply new step = absurd step
leases_are_accounted s c t reply new step = omega (arith, ap (λ m. len m.leases) step.1)

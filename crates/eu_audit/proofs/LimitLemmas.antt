-- What a step leaves is within the limits
use Rattle.std.proofs.Common.{◌≡◌, ℕ, ◌+◌, ◌-◌, ◌≤◌, ◌<◌, ◌^◌, Bool, true, false, not, refl, sym, ◌∙◌, subst, inl, inr, ◌⊎◌, arith}
use Rattle.std.proofs.Common.{true≢false}
use Rattle.std.proofs.lemmas.Bool.{eqb-false}
use Rattle.std.proofs.lemmas.Option.{none-some}
use Rattle.std.specs.Option.{option_map}
use Rattle.eu_model.specs.PlainSteps.{raised}
use Rattle.eu_model.specs.Change.{overridden_by, row_of, uncounted, renew_as, in_status, rule, is_status, Change, one_more}
use Rattle.eu_model.specs.Machine.{is_permitted, renewed, with_value, without}
use Rattle.eu_base.specs.declared.statuses.Status.TheVariants.{Unknown}
use Rattle.eu_model.specs.declared.commands.Reply.TheVariants.{NotFound, Done}
use Rattle.eu_model.specs.PlainSteps.{plain_change, plain_expired}
use Rattle.std.specs.Prelude.{Option, Some, None, is_some, cond, ◌==◌, ◌&&◌, nat_lt, if◌then◌else◌}
use Rattle.std.specs.FinMap.{FinMap, get, len, remove, contains_key, len-insert, len-remove}
use Rattle.eu_base.specs.declared.faults.Fault.TheVariants.{Full, Exhausted}
use Rattle.eu_base.specs.declared.instances.Instance.{Instance}
use Rattle.eu_base.specs.declared.names.Key.{Key}
use Rattle.eu_base.specs.declared.statuses.Status.{Status}
use Rattle.eu_base.specs.Values.{key_cmp}
use Rattle.eu_base.proofs.KeyLemmas.{keys_total}
use Rattle.eu_model.specs.declared.views.Listed.{Listed}
use Rattle.eu_model.specs.PlainSteps.{plain_evicted}
use Rattle.std.specs.Prelude.{List, [], ◌∷◌}
use Rattle.eu_model.specs.Plain.{Plain}
use Rattle.eu_model.specs.PlainSteps.{after, plain_join_fault, plain_renew_fault, plain_register, plain_renew, plain_cancel, plain_set_status, plain_unset_status, plain_adopt, plain_one, plain_seen}
use Rattle.eu_audit.specs.Verdict.{IsWithinLimits}

-- at a key there is room for a lease: one is held there, or fewer than may be
abbrev HasRoom : FinMap key_cmp Listed → Key → Type 0
HasRoom m k = (contains_key m k ≡ true) ⊎ (len m < 65536)

len-put : (b : Bool) (n : ℕ) → n ≤ 65536 → (b ≡ true) ⊎ (n < 65536) → cond b n (n + 1) ≤ 65536
len-put true n most room = most
len-put false n most (inl is) = absurd (true≢false (sym is))
len-put false n most (inr few) = omega (arith, few)

len-taken : (b : Bool) (n : ℕ) → n ≤ 65536 → cond b (n - 1) n ≤ 65536
len-taken true n most = omega (arith, most)
len-taken false n most = most

len-with : (m : FinMap key_cmp Listed) (k : Key) (v : Option Listed) → len m ≤ 65536 → (is_some v ≡ true → HasRoom m k) → len (with_value m k v) ≤ 65536
len-with m k None most room = subst (λ n. n ≤ 65536) (sym (len-remove keys_total m k)) (len-taken (contains_key m k) (len m) most)
len-with m k (Some l) most room = subst (λ n. n ≤ 65536) (sym (len-insert keys_total m k l)) (len-put (contains_key m k) (len m) most (room refl))

since-counted : (b : Bool) (n : ℕ) → n ≤ 2 ^ 62 → (b ≡ true → n < 2 ^ 62) → (if b then n + 1 else n) ≤ 2 ^ 62
since-counted true n most few = omega (arith, few refl)
since-counted false n most few = most

changed : (p : Plain) (k : Key) (c : Change Listed) → IsWithinLimits p → (is_some c.lease ≡ true → HasRoom p.leases k) → c.expected ≤ 2 ^ 40
    → (c.counted ≡ true → p.since < 2 ^ 62) → IsWithinLimits (after p k c)
changed p k c limits room expected counted = record {
  leases = len-with p.leases k c.lease limits.leases room;
  expected = expected;
  since = since-counted c.counted p.since limits.since counted;
}

-- ---- what can be joined

-- it is held, or neither limit is reached
joins : (b full most : Bool) → (if b then None else if full then Some Full else if most then Some Exhausted else None) ≡ None → (b ≡ true) ⊎ ((full ≡ false) × (most ≡ false))
joins true full most none = inl refl
joins false true most none = absurd (none-some Full (sym none))
joins false false true none = absurd (none-some Exhausted (sym none))
joins false false false none = inr (refl, refl)

below : (n most : ℕ) → n ≤ most → (n == most) ≡ false → n < most
below n most le ne = omega (arith, le, eqb-false n most ne)

room_of : (p : Plain) (k : Key) → IsWithinLimits p → plain_join_fault p k ≡ None → HasRoom p.leases k
room_of p k limits none =
    elim (joins (contains_key p.leases k) (len p.leases == 65536) (p.expected == 2 ^ 40) none) [
      | inl held ↦ inl held
      | inr free ↦ inr (below (len p.leases) 65536 limits.leases free.0)
    ]

more : (b : Bool) (n : ℕ) → n ≤ 2 ^ 40 → (b ≡ true) ⊎ (n < 2 ^ 40) → one_more (not b) n ≤ 2 ^ 40
more true n most room = most
more false n most (inl is) = absurd (true≢false (sym is))
more false n most (inr few) = elim (nat_lt 0 n) as (λ c. (if c then n + 1 else n) ≤ 2 ^ 40) [ true ↦ omega (arith, few) | false ↦ most ]

expected_of : (p : Plain) (k : Key) → IsWithinLimits p → plain_join_fault p k ≡ None → one_more (not (contains_key p.leases k)) p.expected ≤ 2 ^ 40
expected_of p k limits none =
    more (contains_key p.leases k) p.expected limits.expected (elim (joins (contains_key p.leases k) (len p.leases == 65536) (p.expected == 2 ^ 40) none) [
      | inl held ↦ inl held
      | inr free ↦ inr (below p.expected (2 ^ 40) limits.expected free.1)
    ])

-- ---- the commands on a lease

pub register_limits : (p : Plain) (n : Instance) (replicated : Bool) (t : ℕ) → IsWithinLimits p → plain_join_fault p n.key ≡ None
    → IsWithinLimits (after p n.key (plain_register (get p.leases n.key) (get p.overrides n.key.id) p.expected n replicated t))
register_limits p n replicated t limits none =
    changed p n.key (plain_register (get p.leases n.key) (get p.overrides n.key.id) p.expected n replicated t) limits (λ is. room_of p n.key limits none)
    (subst (λ b. one_more (not b) p.expected ≤ 2 ^ 40) (sym (same_held (get p.leases n.key))) (expected_of p n.key limits none)) (λ is. absurd (true≢false (sym is)))
  where
    same_held : (held : Option Listed) → is_some (option_map raised held) ≡ is_some held
    same_held None = refl
    same_held (Some l) = refl

pub adopt_limits : (p : Plain) (n : Instance) (t : ℕ) → IsWithinLimits p → plain_join_fault p n.key ≡ None
    → IsWithinLimits (after p n.key (plain_adopt (get p.leases n.key) (get p.overrides n.key.id) p.expected n t))
adopt_limits p n t limits none =
    changed p n.key (plain_adopt (get p.leases n.key) (get p.overrides n.key.id) p.expected n t) limits (λ is. room_of p n.key limits none)
    (subst (λ b. one_more (not b) p.expected ≤ 2 ^ 40) (sym (same_held (get p.leases n.key))) (expected_of p n.key limits none)) (λ is. absurd (true≢false (sym is)))
  where
    same_held : (held : Option Listed) → is_some (option_map (overridden_by (row_of n.overridden)) (option_map raised held)) ≡ is_some held
    same_held None = refl
    same_held (Some l) = refl

-- a lease stays held, and no more are expected
abbrev Stays : Option Listed → ℕ → Change Listed → Type 0
Stays held expected c = (is_some c.lease ≡ true → is_some held ≡ true) × (c.expected ≤ expected)

stays : (p : Plain) (k : Key) (c : Change Listed) → IsWithinLimits p → Stays (get p.leases k) p.expected c → (c.counted ≡ true → p.since < 2 ^ 62) → IsWithinLimits (after p k c)
stays p k c limits s counted = changed p k c limits (λ is. inl (s.0 is)) (omega (arith, s.1, limits.expected)) counted

pub cancel_limits : (p : Plain) (k : Key) → IsWithinLimits p → IsWithinLimits (after p k (plain_cancel (get p.leases k) p.expected))
cancel_limits p k limits = by (get p.leases k)
  where
    by : (held : Option Listed) → IsWithinLimits (after p k (plain_cancel held p.expected))
    by None = changed p k (plain_cancel None p.expected) limits (λ is. absurd (true≢false (sym is))) limits.expected (λ is. absurd (true≢false (sym is)))
    by (Some l) = changed p k (plain_cancel (Some l) p.expected) limits (λ is. absurd (true≢false (sym is))) (omega (arith, limits.expected)) (λ is. absurd (true≢false (sym is)))

-- where a lease is held, whatever is left is no reason against it
over : (l : Listed) (expected : ℕ) (c : Change Listed) → c.expected ≡ expected → Stays (Some l) expected c
over l expected c e = (λ is. refl, omega (arith, e))

renew_stays : (held : Option Listed) (row : Option Status) (expected : ℕ) (last_dirty : Option ℕ) (overridden : Option Status) (replicated : Bool) (t : ℕ)
    → Stays held expected (plain_renew held row expected last_dirty overridden replicated t)
renew_stays None row expected last_dirty overridden replicated t = (λ is. is, omega arith)
renew_stays (Some l) row expected last_dirty overridden replicated t =
    let status = rule l.instance.status row (Some l.instance.status) replicated in
    over l expected (plain_renew (Some l) row expected last_dirty overridden replicated t)
    (elim (is_status status Unknown) as (λ b. (if b then uncounted (Some (raised l)) row expected NotFound else renew_as (raised l) row expected last_dirty overridden replicated t status).expected ≡ expected) [
      | true ↦ refl
      | false ↦ refl
    ])

not_exhausted : (counted : Bool) (n : ℕ) → n ≤ 2 ^ 62 → (if counted && (n == 2 ^ 62) then Some Exhausted else None) ≡ None → counted ≡ true → n < 2 ^ 62
not_exhausted false n most none is = absurd (true≢false (sym is))
not_exhausted true n most none is =
    below n (2 ^ 62) most (elim (n == 2 ^ 62) as (λ b. (if b then Some Exhausted else None) ≡ None → b ≡ false) [ true ↦ λ e. absurd (none-some Exhausted (sym e)) | false ↦ λ e. refl ] none)

pub renew_limits : (p : Plain) (k : Key) (last_dirty : Option ℕ) (overridden : Option Status) (replicated : Bool) (t : ℕ) → IsWithinLimits p
    → plain_renew_fault p (plain_renew (get p.leases k) (get p.overrides k.id) p.expected last_dirty overridden replicated t).counted ≡ None
    → IsWithinLimits (after p k (plain_renew (get p.leases k) (get p.overrides k.id) p.expected last_dirty overridden replicated t))
renew_limits p k last_dirty overridden replicated t limits none =
    let c = plain_renew (get p.leases k) (get p.overrides k.id) p.expected last_dirty overridden replicated t in
    stays p k c limits (renew_stays (get p.leases k) (get p.overrides k.id) p.expected last_dirty overridden replicated t)
    (not_exhausted c.counted p.since limits.since none)

-- ---- a status that is set or unset

-- of a lease that is held: nothing is counted, and as many are expected
abbrev Uncounted : ℕ → Change Listed → Type 0
Uncounted expected c = (c.expected ≡ expected) × (c.counted ≡ false)

uncounted_limits : (p : Plain) (k : Key) (change : Option Listed → Change Listed) → IsWithinLimits p → Stays None p.expected (change None) → (change None).counted ≡ false
    → ((l : Listed) → Uncounted p.expected (change (Some l))) → IsWithinLimits (after p k (change (get p.leases k)))
uncounted_limits p k change limits none un some =
    let both = by (get p.leases k) in
    stays p k (change (get p.leases k)) limits both.0 (λ is. absurd (true≢false (sym is ∙ both.1)))
  where
    by : (held : Option Listed) → Stays held p.expected (change held) × ((change held).counted ≡ false)
    by None = (none, un)
    by (Some l) = (over l p.expected (change (Some l)) (some l).0, (some l).1)

pub set_limits : (p : Plain) (k : Key) (status : Status) (last_dirty : Option ℕ) (t : ℕ) → IsWithinLimits p
    → IsWithinLimits (after p k (plain_set_status (plain_one p k t) (get p.leases k) (get p.overrides k.id) p.expected status last_dirty t))
set_limits p k status last_dirty t limits =
    uncounted_limits p k (λ held. plain_set_status (plain_seen permitted t held) held (get p.overrides k.id) p.expected status last_dirty t) limits (λ is. is, omega arith) refl one
  where
    permitted : Bool
    permitted = is_permitted p.config p.expected p.last

    -- of a lease that is seen
    seen : (l : Listed) (b : Bool) → Uncounted p.expected (plain_change (if b then uncounted (Some (renewed (raised l) t)) (get p.overrides k.id) p.expected Done else uncounted (Some (in_status (raised l) status last_dirty t)) (Some status) p.expected Done))
    seen l true = (refl, refl)
    seen l false = (refl, refl)

    one : (l : Listed) → Uncounted p.expected (plain_set_status (plain_seen permitted t (Some l)) (Some l) (get p.overrides k.id) p.expected status last_dirty t)
    one l = elim (permitted && plain_expired l t 0) as (λ b. Uncounted p.expected (plain_set_status (if b then None else Some l) (Some l) (get p.overrides k.id) p.expected status last_dirty t)) [
      | true ↦ (refl, refl)
      | false ↦ seen l (is_status l.instance.status status)
    ]

pub unset_limits : (p : Plain) (k : Key) (suggested : Option Status) (last_dirty : Option ℕ) (t : ℕ) → IsWithinLimits p
    → IsWithinLimits (after p k (plain_unset_status (plain_one p k t) (get p.leases k) (get p.overrides k.id) p.expected suggested last_dirty t))
unset_limits p k suggested last_dirty t limits =
    uncounted_limits p k (λ held. plain_unset_status (plain_seen permitted t held) held (get p.overrides k.id) p.expected suggested last_dirty t) limits (λ is. is, omega arith) refl one
  where
    permitted : Bool
    permitted = is_permitted p.config p.expected p.last

    seen : (l : Listed) (row : Option Status) → Uncounted p.expected (plain_unset_status (Some l) (Some l) row p.expected suggested last_dirty t)
    seen l None = (refl, refl)
    seen l (Some row) = (refl, refl)

    one : (l : Listed) → Uncounted p.expected (plain_unset_status (plain_seen permitted t (Some l)) (Some l) (get p.overrides k.id) p.expected suggested last_dirty t)
    one l = elim (permitted && plain_expired l t 0) as (λ b. Uncounted p.expected (plain_unset_status (if b then None else Some l) (Some l) (get p.overrides k.id) p.expected suggested last_dirty t)) [
      | true ↦ (refl, refl)
      | false ↦ seen l (get p.overrides k.id)
    ]

-- ---- an eviction

len-without : (m : FinMap key_cmp Listed) (ks : List Key) → len (without m ks) ≤ len m
len-without m [] = omega arith
len-without m (k ∷ ks) = omega (arith, len-without (remove m k) ks, len-remove keys_total m k, less (contains_key m k) (len m))
  where
    less : (b : Bool) (n : ℕ) → cond b (n - 1) n ≤ n
    less true n = omega arith
    less false n = omega arith

pub pass_limits : (p : Plain) (t : ℕ) (victims : List Key) → IsWithinLimits p → IsWithinLimits (plain_evicted p t victims)
pass_limits p t victims limits = record {
  leases = omega (arith, len-without p.leases victims, limits.leases);
  expected = omega (arith, limits.expected);
  since = limits.since;
}

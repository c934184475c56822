-- What is so of every eviction
use Rattle.std.proofs.Common.{◌≡◌, ℕ, suc, ◌≤◌, ◌<◌, T, Bool, true, false, List, [], ◌∷◌, map, filter, take, length, refl, sym, ap, ◌∙◌, subst, All, Contains, get_or, arith, min}
use Rattle.std.specs.Prelude.{cond, Some, unwrap_or, ◌&&◌, ◌||◌, not, nat_lt}
use Rattle.std.specs.List.{IsDistinct}
use Rattle.std.specs.declared.cmp.Ordering.{Ordering}
use Rattle.std.specs.declared.cmp.Ordering.TheVariants.{Less, Equal, Greater}
use Rattle.std.specs.Ordering.{eq_by_cmp, is_eq, is_lt, ordering_reverse}
use Rattle.std.specs.FinMap.{get, len, entries, entries_sorted, get-entries}
use Rattle.std.specs.FinMap.Entries.{find, is_sorted, below_all}
use Rattle.std.proofs.lemmas.Bool.Decides.{nat_tests}
use Rattle.std.proofs.lemmas.Cmp.{tied_itself}
use Rattle.std.proofs.lemmas.Option.{none-some}
use Rattle.std.proofs.lemmas.List.{get_or-take, length-take}
use Rattle.std.proofs.lemmas.Map.Keys.{IsDistinct-from_apart, apart_from_distinct}
use Rattle.std.proofs.lemmas.List.Elements.{All-nil, All-cons, All-map, All-filter, All-contains, recursion_from_All}
use Rattle.eu_base.specs.declared.names.Key.{Key}
use Rattle.eu_base.specs.Values.{key_cmp, key_eq}
use Rattle.eu_base.proofs.KeyLemmas.{keys_total, key_eq-ties, key_eq-Decides}
use Rattle.eu_model.specs.declared.commands.Reply.TheVariants.{Evicted}
use Rattle.eu_model.specs.Machine.{Record, is_expired, last, threshold, share, Machine, permits}
use Rattle.eu_model.specs.Step.{due, extra_time, number_evicted, AreVictims}
use Rattle.eu_model.specs.Law.{VictimsHaveExpired, EvictionsKeepTheShare, PreservationForbids}

pub first : (a b : Bool) → T (a && b) → T a
first true b p = tt
first false b p = p

pub second : (a b : Bool) → T (a && b) → T b
second true b p = p
second false b p = absurd p

pub less : (o : Ordering) → T (is_lt o) → o ≡ Less
less Less p = refl
less Equal p = absurd p
less Greater p = absurd p

below : {X : Type 0} (k : Key) (es : List (Key × X)) → T (below_all key_cmp k es) → All (λ e. key_cmp k e.0 ≡ Less) es
below k [] h = All-nil (λ e. key_cmp k e.0 ≡ Less)
below k (e ∷ es) h =
    let one = is_lt (key_cmp k e.0) in
    let more = below_all key_cmp k es in
    All-cons (λ d. key_cmp k d.0 ≡ Less) e es (less (key_cmp k e.0) (first one more h)) (below k es (second one more h))

-- a later key isn't that of the first entry
apart : (k q : Key) → key_cmp k q ≡ Less → eq_by_cmp key_cmp q k ≡ false
apart k q h = ap is_eq (keys_total.antisymm q k ∙ ap ordering_reverse h)

module _ {X : Type 0} (test : X → Bool) where
  -- what passes the test is found at the key
  abbrev pub Passes : List (Key × X) → Key → Type 0
  Passes es k = (r : X) × (find key_cmp k es ≡ Some r) × (test r ≡ true)

  abbrev pub passing : List (Key × X) → List Key
  passing es = map (λ e. e.0) (filter (λ e. test e.1) es)

  -- those that pass after an entry, whose key comes first
  after_one : (e : Key × X) (es : List (Key × X)) → T (below_all key_cmp e.0 es) → All (Passes es) (passing es) → All (Passes (e ∷ es)) (passing (e ∷ es))
  after_one e es h ps = by (test e.1) refl
    where
      later : All (λ k. key_cmp e.0 k ≡ Less) (passing es)
      later = All-map (λ k. key_cmp e.0 k ≡ Less) (λ d. d.0) (filter (λ d. test d.1) es) (All-filter (λ d. test d.1) (λ d. key_cmp e.0 d.0 ≡ Less) es (below e.0 es h))

      rest : All (Passes (e ∷ es)) (passing es)
      rest i d lt =
          let k = get_or (passing es) i d in
          let p = ps i d lt in
          (p.0, ap (λ b. cond b (Some e.1) (find key_cmp k es)) (apart e.0 k (later i d lt)) ∙ p.1, p.2)

      here : test e.1 ≡ true → Passes (e ∷ es) e.0
      here is = (e.1, ap (λ (o : Ordering). cond (is_eq o) (Some e.1) (find key_cmp e.0 es)) (tied_itself keys_total e.0), is)

      by : (b : Bool) → test e.1 ≡ b → All (Passes (e ∷ es)) (map (λ d. d.0) (cond b (e ∷ filter (λ d. test d.1) es) (filter (λ d. test d.1) es)))
      by true is = All-cons (Passes (e ∷ es)) e.0 (passing es) (here is) rest
      by false is = rest

  pub passes : (es : List (Key × X)) → T (is_sorted key_cmp es) → All (Passes es) (passing es)
  passes [] h = All-nil (Passes [])
  passes (e ∷ es) h =
      let one = below_all key_cmp e.0 es in
      let more = is_sorted key_cmp es in
      after_one e es (first one more h) (passes es (second one more h))

  -- each stands once
  pub once : (es : List (Key × X)) → T (is_sorted key_cmp es) → IsDistinct key_eq (passing es)
  unfolding IsDistinct
  once [] h = tt
  once (e ∷ es) h =
      let ordered = below e.0 es (first (below_all key_cmp e.0 es) (is_sorted key_cmp es) h) in
      let later = All-map (λ k. key_cmp e.0 k ≡ Less) (λ d. d.0) (filter (λ d. test d.1) es) (All-filter (λ d. test d.1) (λ d. key_cmp e.0 d.0 ≡ Less) es ordered) in
      let others = once es (second (below_all key_cmp e.0 es) (is_sorted key_cmp es) h) in
      elim (test e.1) as (λ b. IsDistinct key_eq (map (λ d. d.0) (cond b (e ∷ filter (λ d. test d.1) es) (filter (λ d. test d.1) es)))) [
        | true ↦ (recursion_from_All (λ k. key_eq e.0 k ≡ false) (passing es) (λ i d lt. key_eq-ties e.0 (get_or (passing es) i d) ∙ ap is_eq (later i d lt)), others)
        | false ↦ others
      ]

  -- what passes the test is among them
  pub found : (es : List (Key × X)) (k : Key) (r : X) → find key_cmp k es ≡ Some r → test r ≡ true → Contains (passing es) k
  found [] k r at is = absurd (none-some r at)
  found (e ∷ es) k r at is =
      elim (eq_by_cmp key_cmp k e.0) as (λ b. eq_by_cmp key_cmp k e.0 ≡ b → cond b (Some e.1) (find key_cmp k es) ≡ Some r → Contains (passing (e ∷ es)) k) [
        | true ↦ λ tie here.
            let same : k ≡ e.0 = (key_eq-Decides k e.0).0 (key_eq-ties k e.0 ∙ tie) in
            let passed : test e.1 ≡ true = ap (λ o. test (unwrap_or o e.1)) here ∙ is in
            subst (λ b. Contains (map (λ d. d.0) (cond b (e ∷ filter (λ d. test d.1) es) (filter (λ d. test d.1) es))) k) (sym passed) (0, omega arith, sym same)
        | false ↦ λ tie there.
            let inside = found es k r there is in
            elim (test e.1) as (λ b. Contains (map (λ d. d.0) (cond b (e ∷ filter (λ d. test d.1) es) (filter (λ d. test d.1) es))) k) [
              | true ↦ (suc inside.0, omega (arith, inside.1), inside.2)
              | false ↦ inside
            ]
      ] refl at

module _ (s : Machine) (t : ℕ) where
  abbrev late : Record → Bool
  late r = is_expired r t (extra_time s.config s.previous t)

  -- whatever is due is held, and has expired
  pub due_expired : (k : Key) → Contains (due s t) k → (r : Record) × (get s.leases k ≡ Some r) × (is_expired r t (extra_time s.config s.previous t) ≡ true)
  due_expired k inside =
      let p = All-contains (Passes late (entries s.leases)) (due s t) k (passes late (entries s.leases) (entries_sorted s.leases)) inside in
      (p.0, get-entries s.leases k ∙ p.1, p.2)

  -- and whatever is held and has expired is due, once
  pub expired_due : (k : Key) (r : Record) → get s.leases k ≡ Some r → is_expired r t (extra_time s.config s.previous t) ≡ true → Contains (due s t) k
  expired_due k r at is = found late (entries s.leases) k r (sym (get-entries s.leases k) ∙ at) is

  pub due_once : IsDistinct key_eq (due s t)
  due_once = once late (entries s.leases) (entries_sorted s.leases)

-- what stands once in a list does in its front
pub IsDistinct-take : (n : ℕ) (ks : List Key) → IsDistinct key_eq ks → IsDistinct key_eq (take n ks)
IsDistinct-take n ks h = IsDistinct-from_apart key_eq (take n ks) (λ i j d lt inside.
    let low : j < n = omega (arith, inside, length-take n ks) in
    (λ t. key_eq (get_or-take n ks i d (omega (arith, lt, low)) t) (get_or-take n ks j d low t)) ∙ apart_from_distinct key_eq ks i j d h lt (omega (arith, inside, length-take n ks)))

pub victims_are : (vs ws : List Key) → Evicted vs ≡ Evicted ws → vs ≡ ws
victims_are vs ws e = cc

pub victims_have_expired : VictimsHaveExpired
victims_have_expired s t victims new step k inside =
    due_expired s t k (All-contains (Contains (due s t)) step.0 k step.2.expired (subst (λ vs. Contains vs k) (victims_are victims step.0 step.1) inside))

pub number_of : (s : Machine) (t : ℕ) (victims : List Key) (v : List Key) → Evicted victims ≡ Evicted v → AreVictims s t v → length victims ≡ number_evicted s t
number_of s t victims v e are = ap length (victims_are victims v e) ∙ are.number

pub evictions_keep_the_share : EvictionsKeepTheShare
evictions_keep_the_share s t victims new step =
    elim (permits s) as (λ b. length victims ≡ cond b (min (length (due s t)) (share s.config (len s.leases))) 0 → length victims ≤ share s.config (len s.leases)) [
      | true ↦ λ e. omega (arith, e)
      | false ↦ λ e. omega (arith, e)
    ] (number_of s t victims step.0 step.1 step.2)

nobody : (victims : List Key) → length victims ≡ 0 → victims ≡ []
nobody [] e = refl
nobody (v ∷ vs) e = absurd (omega (arith, e))

pub preservation_forbids : PreservationForbids
preservation_forbids s t victims new step on few =
    let most = threshold s.config s.expected in
    let none : nat_lt most (last s.marks) ≡ false = grind (arith, nat_tests, few) in
    let never : permits s ≡ false = (λ i. not (on i) || (nat_lt 0 most && none i)) ∙ elim (nat_lt 0 most) as (λ b. (b && false) ≡ false) [ true ↦ refl | false ↦ refl ] in
    nobody victims (number_of s t victims step.0 step.1 step.2 ∙ ap (λ b. cond b (min (length (due s t)) (share s.config (len s.leases))) 0) never)

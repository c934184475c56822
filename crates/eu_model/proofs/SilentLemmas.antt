-- Who is silent goes
use Rattle.std.proofs.Common.{◌≡◌, ◌⊎◌, inl, inr, ℕ, zero, suc, ◌+◌, ◌*◌, ◌≤◌, ◌<◌, Bool, true, false, List, [], ◌∷◌, refl, sym, ap, ◌∙◌, subst, length, Contains, get_or, All, arith, min, true≢false}
use Rattle.std.specs.Prelude.{cond, count_by, nat_lt, not, ◌||◌, Option, Some, None, is_some, unwrap_or}
use Rattle.std.specs.List.{list_any, IsDistinct}
use Rattle.std.specs.FinMap.{FinMap, get, remove, len}
use Rattle.std.proofs.lemmas.Bool.{lt-ltb, ltb-true, ltb-false}
use Rattle.std.proofs.lemmas.Option.{none-some}
use Rattle.std.proofs.lemmas.List.Sums.{sum_by-cons, sum_by-append, count_by-le-length}
use Rattle.std.proofs.lemmas.List.Elements.{All-head, All-tail, All-contains, Contains-get_or}
use Rattle.std.proofs.lemmas.Map.Keys.{IsDistinct-head, IsDistinct-tail}
use Rattle.eu_base.specs.declared.names.Key.{Key}
use Rattle.eu_base.specs.Values.{key_cmp, key_eq}
use Rattle.eu_base.proofs.KeyLemmas.{key_eq-ties, key_eq-flips, key_eq-Decides}
use Rattle.eu_model.specs.declared.commands.Command.{Command}
use Rattle.eu_model.specs.declared.commands.Command.TheVariants.{Evict}
use Rattle.eu_model.specs.declared.commands.Entry.{Entry}
use Rattle.eu_model.specs.declared.commands.Reply.{Reply}
use Rattle.eu_model.specs.Machine.{Record, newest, duration, durations, Machine, without}
use Rattle.eu_model.specs.Step.{extra_time, due, AreVictims}
use Rattle.eu_model.specs.View.{counts}
use Rattle.eu_model.specs.Server.{Server, ServerStep, Run}
use Rattle.eu_model.specs.History.{registers, renews, ends, touches, evicted_by, all_evicted, evicted_beside, is_evict, allows, most}
use Rattle.eu_model.specs.RunLaw.{may_evict, all_may_evict, WhoIsSilentGoes}
use Rattle.eu_model.proofs.GrowthLemmas.{GoesBy, get_with, get_without, held_at, server_goes}
use Rattle.eu_model.proofs.HeldLemmas.{apart}
use Rattle.eu_model.proofs.HistoryLemmas.{server_leaves}
use Rattle.eu_model.proofs.EvictionLemmas.{due_expired, expired_due}
use Rattle.eu_model.proofs.EvictionRunLemmas.{some_of}

-- ---- counts

abbrev one : Bool → ℕ
one b = cond b 1 0

one_le : (a b : Bool) → (a ≡ true → b ≡ true) → one a ≤ one b
one_le true b h = subst (λ c. 1 ≤ one c) (sym (h refl)) (omega arith)
one_le false b h = omega arith

one_or : (a b : Bool) → one (a || b) ≤ one a + one b
one_or true b = omega arith
one_or false b = omega arith

one_not : (a : Bool) → one a + one (not a) ≡ 1
one_not true = refl
one_not false = refl

module _ {X : Type 0} where
  here : (x : X) (xs : List X) → Contains (x ∷ xs) x
  here x xs = (0, omega arith, refl)

  there : (y x : X) (xs : List X) → Contains xs x → Contains (y ∷ xs) x
  there y x xs (i, lt, is) = (suc i, omega (arith, lt), is)

  count_cons : (p : X → Bool) (x : X) (xs : List X) → count_by p (x ∷ xs) ≡ one (p x) + count_by p xs
  count_cons p x xs = sum_by-cons (λ y. one (p y)) x xs

  count_le : (p q : X → Bool) (xs : List X) → ((x : X) → Contains xs x → p x ≡ true → q x ≡ true) → count_by p xs ≤ count_by q xs
  count_le p q [] h = omega arith
  count_le p q (x ∷ xs) h =
      omega (arith, count_cons p x xs, count_cons q x xs, one_le (p x) (q x) (h x (here x xs)), count_le p q xs (λ y inside. h y (there x y xs inside)))

  count_both : (p : X → Bool) (xs : List X) → count_by p xs + count_by (λ x. not (p x)) xs ≡ length xs
  count_both p [] = omega arith
  count_both p (x ∷ xs) = omega (arith, count_cons p x xs, count_cons (λ y. not (p y)) x xs, one_not (p x), count_both p xs)

  count_none : (p : X → Bool) (xs : List X) → count_by p xs ≡ 0 → (x : X) → Contains xs x → p x ≡ false
  count_none p xs none x inside =
      elim (p x) as (λ b. p x ≡ b → b ≡ false) [
        | true ↦ λ is. absurd (omega (arith, none, positive xs x inside is))
        | false ↦ λ is. refl
      ] refl
    where
      positive : (ys : List X) (y : X) → Contains ys y → p y ≡ true → 1 ≤ count_by p ys
      positive [] y inside is = absurd (omega (arith, inside.1))
      positive (z ∷ zs) y (zero, lt, at) is = omega (arith, count_cons p z zs, ap (λ w. one (p w)) at, ap one is)
      positive (z ∷ zs) y (suc i, lt, at) is = omega (arith, count_cons p z zs, positive zs y (i, omega (arith, lt), at) is)

  count_all : (p : X → Bool) (xs : List X) → ((x : X) → Contains xs x → p x ≡ true) → count_by p xs ≡ length xs
  count_all p [] all = omega arith
  count_all p (x ∷ xs) all = omega (arith, count_cons p x xs, ap one (all x (here x xs)), count_all p xs (λ y inside. all y (there x y xs inside)))

  count_zero : (p : X → Bool) (xs : List X) → ((x : X) → Contains xs x → p x ≡ false) → count_by p xs ≡ 0
  count_zero p [] all = omega arith
  count_zero p (x ∷ xs) all = omega (arith, count_cons p x xs, ap one (all x (here x xs)), count_zero p xs (λ y inside. all y (there x y xs inside)))

none_of : {X : Type 0} (o : Option X) → is_some o ≡ false → o ≡ None
none_of None is = refl
none_of (Some x) is = absurd (true≢false is)

-- ---- how many of the leases at some keys are held

abbrev left : FinMap key_cmp Record → List Key → ℕ
left m ks = count_by (λ k. is_some (get m k)) ks

gone_at : (m : FinMap key_cmp Record) (v k : Key) → is_some (get m v) ≡ true → one (is_some (get (remove m v) k)) + one (key_eq v k) ≤ one (is_some (get m k))
gone_at m v k held =
    elim (key_eq k v) as (λ b. key_eq k v ≡ b → get (remove m v) k ≡ cond b None (get m k) → one (is_some (get (remove m v) k)) + one (key_eq v k) ≤ one (is_some (get m k))) [
      | true ↦ λ is e.
          omega (arith, ap (λ o. one (is_some o)) e, ap one (key_eq-flips v k ∙ is), ap (λ o. one (is_some o)) (held_at m k v is), ap one held)
      | false ↦ λ is e.
          omega (arith, ap (λ o. one (is_some o)) e, ap one (key_eq-flips v k ∙ is))
    ] refl (get_with m v None k)

gone : (m : FinMap key_cmp Record) (v : Key) → is_some (get m v) ≡ true → (ks : List Key) → left (remove m v) ks + one (list_any (key_eq v) ks) ≤ left m ks
gone m v held [] = omega arith
gone m v held (k ∷ ks) =
    omega (
      arith,
      count_cons (λ q. is_some (get (remove m v) q)) k ks,
      count_cons (λ q. is_some (get m q)) k ks,
      gone_at m v k held,
      one_or (key_eq v k) (list_any (key_eq v) ks),
      gone m v held ks,
    )

-- distinct keys that are held go, and those among them that are counted
all_gone : (m : FinMap key_cmp Record) (vs : List Key) → IsDistinct key_eq vs → ((i : ℕ) (d : Key) → i < length vs → is_some (get m (get_or vs i d)) ≡ true)
    → (ks : List Key) → left (without m vs) ks + count_by (λ v. list_any (key_eq v) ks) vs ≤ left m ks
all_gone m [] once all ks = omega arith
all_gone m (v ∷ vs) once all ks =
    let others = λ (i : ℕ) (d : Key) (lt : i < length vs).
    ap is_some (get_with m v None (get_or vs i d))
    ∙ ap (λ b. is_some (cond b None (get m (get_or vs i d)))) (key_eq-ties (get_or vs i d) v ∙ apart v vs (IsDistinct-head key_eq v vs once) i d lt)
    ∙ all (suc i) d (omega (arith, lt)) in
    omega (
      arith,
      count_cons (λ q. list_any (key_eq q) ks) v vs,
      gone m v (all 0 v (omega arith)) ks,
      all_gone (remove m v) vs (IsDistinct-tail key_eq v vs once) others ks,
    )

-- ---- one step

untouched : (c : Command) (t : ℕ) (reg ended again : Bool) (old new : Option Record) → (reg || again) ≡ false → GoesBy c t reg ended again old new
    → (new ≡ None) ⊎ (new ≡ old)
untouched c t true ended again old new quiet goes = absurd (true≢false quiet)
untouched c t false true again old new quiet goes = inl goes
untouched c t false false true old new quiet goes = absurd (true≢false quiet)
untouched c t false false false old new quiet goes = inr goes

-- how far a lease reaches, without extra time
abbrev reach : Record → ℕ
reach r = (newest r.touches).at + durations (newest r.touches).kind * duration r.instance

-- the leases at these keys all end before this moment
abbrev Silent : List Key → ℕ → Server → Type 0
Silent ks bound s = (k : Key) → Contains ks k → (r : Record) → get s.machine.leases k ≡ Some r → reach r < bound

abbrev Quiet : List Key → Entry → Type 0
Quiet ks e = (k : Key) → Contains ks k → touches k e.command e.reply ≡ false

module _ (ks : List Key) (s : Server) (e : Entry) (new : Server) (step : ServerStep s e.command e.moment e.reply new) (quiet : Quiet ks e) where
  stays : (k : Key) → Contains ks k → (get new.machine.leases k ≡ None) ⊎ (get new.machine.leases k ≡ get s.machine.leases k)
  stays k inside =
      untouched e.command e.moment (registers k e.command) (ends k e.command e.reply) (renews k e.command e.reply) (get s.machine.leases k) (get new.machine.leases k) (quiet k inside)
      (server_goes s e.command e.moment e.reply new step k)

  still : (k : Key) → Contains ks k → is_some (get new.machine.leases k) ≡ true → is_some (get s.machine.leases k) ≡ true
  still k inside held = elim (stays k inside) [
    | inl none ↦ absurd (true≢false (sym held ∙ ap is_some none))
    | inr same ↦ ap is_some (sym same) ∙ held
  ]

  fewer : left new.machine.leases ks ≤ left s.machine.leases ks
  fewer = count_le (λ k. is_some (get new.machine.leases k)) (λ k. is_some (get s.machine.leases k)) ks still

  silent_on : (bound : ℕ) → Silent ks bound s → Silent ks bound new
  silent_on bound silent k inside r at = elim (stays k inside) [
    | inl none ↦ absurd (none-some r (sym none ∙ at))
    | inr same ↦ silent k inside r (sym same ∙ at)
  ]

-- ---- an eviction

evict_is : (c : Command) → is_evict c ≡ true → c ≡ Evict
evict_is Evict is = refl
evict_is c is = absurd (true≢false (sym is))

abbrev beside : List Key → List Key → ℕ
beside ks vs = count_by (λ k. not (list_any (key_eq k) ks)) vs

-- ---- who is due, and who of them goes

any_of : (v : Key) (ks : List Key) → Contains ks v → list_any (key_eq v) ks ≡ true
any_of v [] inside = absurd (omega (arith, inside.1))
any_of v (k ∷ ks) (zero, lt, at) = ap (λ b. b || list_any (key_eq v) ks) ((key_eq-Decides v k).1 (sym at))
any_of v (k ∷ ks) (suc i, lt, at) = ap (λ b. key_eq v k || b) (any_of v ks (i, omega (arith, lt), at)) ∙ elim (key_eq v k) as (λ b. (b || true) ≡ true) [ true ↦ refl | false ↦ refl ]

-- whatever an eviction takes was held
module _ (s : Machine) (t : ℕ) (vs : List Key) (are : AreVictims s t vs) where
  victims_held : (i : ℕ) (d : Key) → i < length vs → is_some (get s.leases (get_or vs i d)) ≡ true
  victims_held i d lt = ap is_some (due_expired s t (get_or vs i d) (All-contains (Contains (due s t)) vs (get_or vs i d) are.expired (Contains-get_or vs i d lt))).1

  taken : (ks : List Key) → left (without s.leases vs) ks + count_by (λ v. list_any (key_eq v) ks) vs ≤ left s.leases ks
  taken ks = all_gone s.leases vs are.once victims_held ks

  -- where it takes as many as are due, none of them is left
  all_taken : length (due s t) ≤ length vs → (k : Key) → Contains (due s t) k → is_some (get (without s.leases vs) k) ≡ false
  all_taken enough =
      let among = count_all (λ v. list_any (key_eq v) (due s t)) vs (λ v inside. any_of v (due s t) (All-contains (Contains (due s t)) vs v are.expired inside)) in
      count_none (λ k. is_some (get (without s.leases vs) k)) (due s t)
      (omega (arith, enough, taken (due s t), among, count_by-le-length (λ k. is_some (get s.leases k)) (due s t)))

  -- as many others and these go together as the eviction takes
  beside_taken : (ks : List Key) → left (without s.leases vs) ks + length vs ≤ left s.leases ks + beside ks vs
  beside_taken ks = omega (arith, taken ks, count_both (λ v. list_any (key_eq v) ks) vs)

-- the leases are gone, or as many went by an eviction as it may take, or others in their place
abbrev Clears : List Key → Server → Server → List Key → ℕ → Type 0
Clears ks s new others may = (left new.machine.leases ks ≡ 0) ⊎ (left new.machine.leases ks + may ≤ left s.machine.leases ks + beside ks others)

module _ (ks : List Key) (s : Server) (t : ℕ) (reply : Reply) (new : Server) (step : ServerStep s Evict t reply new)
    (late : (k : Key) → Contains ks k → is_some (get s.machine.leases k) ≡ true → Contains (due s.machine t) k) where
  abbrev vs : List Key
  vs = step.0.0

  after_eviction : (k : Key) → get new.machine.leases k ≡ get (without s.machine.leases vs) k
  after_eviction k = ap (λ (m : Machine). get m.leases k) step.0.3

  gone_all : length (due s.machine t) ≤ length vs → left new.machine.leases ks ≡ 0
  gone_all enough = count_zero (λ k. is_some (get new.machine.leases k)) ks (λ k inside.
      ap is_some (after_eviction k ∙ get_without s.machine.leases vs k)
      ∙ elim (is_some (get s.machine.leases k)) as (λ b. is_some (get s.machine.leases k) ≡ b → is_some (cond (list_any (key_eq k) vs) None (get s.machine.leases k)) ≡ false) [
        | true ↦ λ held. sym (ap is_some (get_without s.machine.leases vs k)) ∙ all_taken s.machine t vs step.0.2 enough k (late k inside held)
        | false ↦ λ none. ap (λ o. is_some (cond (list_any (key_eq k) vs) None o)) (none_of (get s.machine.leases k) none) ∙ elim (list_any (key_eq k) vs) as (λ b. is_some (cond b None (let o : Option Record = None in o)) ≡ false) [ true ↦ refl | false ↦ refl ]
      ] refl)

  eviction_clears : Clears ks s new (evicted_by Evict reply) (may_evict s)
  eviction_clears =
      let m = s.machine in
      let many = length (due m t) in
      let share = most m.config (len m.leases) in
      let told = ap (λ r. beside ks (evicted_by Evict r)) step.0.1 in
      let left_is = ap (λ (x : Machine). left x.leases ks) step.0.3 in
      let both = beside_taken m t vs step.0.2 ks in
      elim (allows m.config m.expected (counts m).last) as (λ b. length vs ≡ cond b (min many share) 0 → Clears ks s new (evicted_by Evict reply) (cond b share 0)) [
        | true ↦ λ number.
            elim (nat_lt share many) as (λ b. nat_lt share many ≡ b → Clears ks s new (evicted_by Evict reply) share) [
              | true ↦ λ is. inr (omega (arith, number, ltb-true share many is, told, left_is, both))
              | false ↦ λ is. inl (gone_all (omega (arith, number, ltb-false share many is)))
            ] refl
        | false ↦ λ number. inr (omega (arith, number, told, left_is, both))
      ] step.0.2.number

-- ---- runs

-- where none of the leases is held any more, none is again
gone_stays : (ks : List Key) (es : List Entry) (s end : Server) → Run s es end → All (Quiet ks) es → left s.machine.leases ks ≡ 0 → left end.machine.leases ks ≡ 0
gone_stays ks [] s end run quiet none = ap (λ x. left x.machine.leases ks) run ∙ none
gone_stays ks (e ∷ es) s end run quiet none =
    let few = fewer ks s e run.0 run.2 (All-head (Quiet ks) e es quiet) in
    gone_stays ks es run.0 end run.3 (All-tail (Quiet ks) e es quiet) (omega (arith, none, few))

beside_cons : (ks : List Key) (e : Entry) (es : List Entry) → evicted_beside ks (e ∷ es) ≡ beside ks (evicted_by e.command e.reply) + evicted_beside ks es
beside_cons ks e es = sum_by-append (λ k. one (not (list_any (key_eq k) ks))) (evicted_by e.command e.reply) (all_evicted es)

-- all of the leases are gone, or as many went as the evictions may take, or others in their place
abbrev Cleared : List Key → List Entry → Server → Server → ℕ → Type 0
Cleared ks es s end may = (left end.machine.leases ks ≡ 0) ⊎ (left end.machine.leases ks + may ≤ left s.machine.leases ks + evicted_beside ks es)

-- one step, and those after it
cleared_on : (ks : List Key) (e : Entry) (es : List Entry) (s new end : Server) (may rest : ℕ) → Run new es end → All (Quiet ks) es
    → Clears ks s new (evicted_by e.command e.reply) may → Cleared ks es new end rest → Cleared ks (e ∷ es) s end (may + rest)
cleared_on ks e es s new end may rest run quiet (inl gone) later = inl (gone_stays ks es new end run quiet gone)
cleared_on ks e es s new end may rest run quiet (inr few) (inl gone) = inl gone
cleared_on ks e es s new end may rest run quiet (inr few) (inr later) = inr (omega (arith, few, later, beside_cons ks e es))

-- what one step clears, eviction or not
step_clears : (ks : List Key) (s : Server) (e : Entry) (new : Server) → ServerStep s e.command e.moment e.reply new → Quiet ks e
    → (is_evict e.command ≡ true → (k : Key) → Contains ks k → is_some (get s.machine.leases k) ≡ true → Contains (due s.machine e.moment) k)
    → Clears ks s new (evicted_by e.command e.reply) (cond (is_evict e.command) (may_evict s) 0)
step_clears ks s e new step quiet late =
    elim (is_evict e.command) as (λ b. is_evict e.command ≡ b → Clears ks s new (evicted_by e.command e.reply) (cond b (may_evict s) 0)) [
      | true ↦ λ is.
          let evicts = evict_is e.command is in
          subst (λ c. Clears ks s new (evicted_by c e.reply) (may_evict s)) (sym evicts)
          (eviction_clears ks s e.moment e.reply new (subst (λ c. ServerStep s c e.moment e.reply new) evicts step) (late is))
      | false ↦ λ is. inr (omega (arith, fewer ks s e new step quiet))
    ] refl

-- whoever is silent since a moment is due at each eviction that comes no earlier, and finds an eviction before it that did not either
silent_due : (ks : List Key) (s : Server) (bound t previous : ℕ) → Silent ks bound s → s.machine.previous ≡ Some previous → bound ≤ previous → bound ≤ t
    → (k : Key) → Contains ks k → is_some (get s.machine.leases k) ≡ true → Contains (due s.machine t) k
silent_due ks s bound t previous silent at late later k inside held =
    let lease = some_of (get s.machine.leases k) held in
    let r = lease.0 in
    let extra = extra_time s.machine.config s.machine.previous t in
    let little = ap (λ p. extra_time s.machine.config p t) at in
    expired_due s.machine t k r lease.1 (lt-ltb (reach r + extra) t (omega (arith, silent k inside r lease.1, little, late, later)))

abbrev Later : ℕ → Entry → Type 0
Later bound e = is_evict e.command ≡ true → bound ≤ e.moment

-- the eviction before, after a step
previous_on : (s : Server) (e : Entry) (new : Server) (bound previous : ℕ) → ServerStep s e.command e.moment e.reply new → Later bound e → s.machine.previous ≡ Some previous → bound ≤ previous
    → (p : ℕ) × (new.machine.previous ≡ Some p) × (bound ≤ p)
previous_on s e new bound previous step later at late =
    let left = (server_leaves s e.command e.moment e.reply new step).previous in
    elim (is_evict e.command) as (λ b. is_evict e.command ≡ b → new.machine.previous ≡ cond b (Some e.moment) s.machine.previous → (p : ℕ) × (new.machine.previous ≡ Some p) × (bound ≤ p)) [
      | true ↦ λ is now. (e.moment, now, later is)
      | false ↦ λ is now. (previous, now ∙ at, late)
    ] refl left

clearing : (ks : List Key) (bound : ℕ) (es : List Entry) (s end : Server) (run : Run s es end) → All (Quiet ks) es → All (Later bound) es → Silent ks bound s
    → (previous : ℕ) → s.machine.previous ≡ Some previous → bound ≤ previous → Cleared ks es s end (all_may_evict es s end run)
clearing ks bound [] s end run quiet late silent previous at before = inr (omega (arith, ap (λ x. left x.machine.leases ks) run))
clearing ks bound (e ∷ es) s end run quiet late silent previous at before =
    let new = run.0 in
    let step = run.2 in
    let quiet_first = All-head (Quiet ks) e es quiet in
    let quiet_rest = All-tail (Quiet ks) e es quiet in
    let late_first = All-head (Later bound) e es late in
    let next = previous_on s e new bound previous step late_first at before in
    let clears = step_clears ks s e new step quiet_first (λ is. silent_due ks s bound e.moment previous silent at before (late_first is)) in
    cleared_on ks e es s new end (cond (is_evict e.command) (may_evict s) 0) (all_may_evict es new end run.3) run.3 quiet_rest clears
    (clearing ks bound es new end run.3 quiet_rest (All-tail (Later bound) e es late) (silent_on ks s e new step quiet_first bound silent) next.0 next.1 next.2)

due_silent : (s : Server) (t : ℕ) → Silent (due s.machine t) t s
due_silent s t k inside r at =
    let expired = due_expired s.machine t k inside in
    let same : expired.0 ≡ r = ap (λ o. unwrap_or o r) (sym expired.1 ∙ at) in
    let extra = extra_time s.machine.config s.machine.previous t in
    let past = ltb-true (reach expired.0 + extra) t expired.2 in
    omega (arith, past, ap reach same)

-- an eviction touches nothing
eviction_quiet : (ks : List Key) (e : Entry) → is_evict e.command ≡ true → Quiet ks e
eviction_quiet ks e is k inside = ap (λ c. touches k c e.reply) (evict_is e.command is)

pub who_is_silent_goes : WhoIsSilentGoes
who_is_silent_goes config expected peers es s begun pass later end run ks is within quiet late enough k inside =
    let new = run.0 in
    let step = run.2 in
    let t = pass.moment in
    let silent = λ (q : Key) (in_ks : Contains ks q). due_silent s t q (within q in_ks) in
    let clears = step_clears ks s pass new step (eviction_quiet ks pass is) (λ _ q in_ks held. within q in_ks) in
    let now = (server_leaves s pass.command t pass.reply new step).previous ∙ ap (λ b. cond b (Some t) s.machine.previous) is in
    let rest = clearing ks t later new end run.3 quiet late (silent_on ks s pass new step (eviction_quiet ks pass is) t silent) t now (omega arith) in
    let none : left end.machine.leases ks ≡ 0 = elim (cleared_on ks pass later s new end (cond (is_evict pass.command) (may_evict s) 0) (all_may_evict later new end run.3) run.3 quiet clears rest) [
      | inl gone ↦ gone
      | inr few ↦ omega (arith, few, enough, count_by-le-length (λ q. is_some (get s.machine.leases q)) ks)
    ] in
    none_of (get end.machine.leases k) (count_none (λ q. is_some (get end.machine.leases q)) ks none k inside)

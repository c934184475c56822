-- A walk from the top that stops where a deadline is not before the limit misses none.
use Rattle.std.proofs.Common.{◌≡◌, ℕ, suc, zero, ◌+◌, ◌-◌, ◌*◌, ◌/◌, ◌<◌, ◌≤◌, ◌⊎◌, inl, inr, Bool, true, false, cond, ◌&&◌, List, [], ◌∷◌, ◌++◌, length, get_or, refl, sym, ap, subst, ◌∙◌, arith, ltb, true≢false}
use borrow.Author.Tests.{ltb-true}
use Rattle.std.proofs.lemmas.Bool.{cases_lt, lt-ltb}
use Rattle.eu_deadlines.specs.Heap.{IsOrdered}
use Rattle.eu_deadlines.specs.Walk.{is_earlier, IsAllEarlier}

pub get_or_low : (xs : List ℕ) (y k : ℕ) → k < length xs → get_or (xs ++ y ∷ []) k 0 ≡ get_or xs k 0
get_or_low [] y k h = absurd (omega arith)
get_or_low (x ∷ xs) y zero h = refl
get_or_low (x ∷ xs) y (suc k) h = get_or_low xs y k (omega arith)

pub get_or_end : (xs : List ℕ) (y k : ℕ) → k ≡ length xs → get_or (xs ++ y ∷ []) k 0 ≡ y
get_or_end xs y k e = ap (λ j. get_or (xs ++ y ∷ []) j 0) e ∙ at_end xs
  where
    at_end : (zs : List ℕ) → get_or (zs ++ y ∷ []) (length zs) 0 ≡ y
    at_end [] = refl
    at_end (z ∷ zs) = at_end zs

pub length_end : (xs : List ℕ) (y : ℕ) → length (xs ++ y ∷ []) ≡ length xs + 1
length_end [] y = refl
length_end (x ∷ xs) y = omega (arith, length_end xs y)

-- the places before m that are earlier, in order
pub record DecidedBelow (deadlines : List ℕ) (limit : ℕ) (found : List ℕ) (m : ℕ) : Type 0 where
  pub sound : (j : ℕ) → j < length found → (get_or found j 0 < length deadlines) × (get_or deadlines (get_or found j 0) 0 < limit) × (get_or found j 0 < m)
  pub rising : (j : ℕ) → j + 1 < length found → get_or found j 0 < get_or found (j + 1) 0
  pub complete : (h : ℕ) → h < m → h < length deadlines → get_or deadlines h 0 < limit → (j : ℕ) × (j < length found) × (get_or found j 0 ≡ h)

-- the places below the first i of those found have been decided, and no others
pub record Walked (deadlines : List ℕ) (limit : ℕ) (found : List ℕ) (i : ℕ) : Type 0 where
  pub m : ℕ
  pub some : 0 < m
  pub decided : DecidedBelow deadlines limit found m
  pub done : (j : ℕ) → j < i → j < length found → 2 * get_or found j 0 + 2 < m
  pub ahead : (j : ℕ) → i ≤ j → j < length found → m ≤ 2 * get_or found j 0 + 1

module _ (found : List ℕ) (rising : (j : ℕ) → j + 1 < length found → get_or found j 0 < get_or found (j + 1) 0) where
  pub rises_far : (i d : ℕ) → i + d < length found → get_or found i 0 + d ≤ get_or found (i + d) 0
  rises_far i zero h = omega (arith, ap (λ j. get_or found j 0) (plus_zero i))
    where
      plus_zero : (n : ℕ) → n + zero ≡ n
      plus_zero n = omega arith
  rises_far i (suc d) h = omega (arith, rises_far i d (omega arith), rising (i + d) (omega arith), ap (λ j. get_or found j 0) (plus_one i d))
    where
      plus_one : (a b : ℕ) → a + suc b ≡ a + b + 1
      plus_one a b = omega arith

  pub rises_between : (i j : ℕ) → i ≤ j → j < length found → get_or found i 0 + (j - i) ≤ get_or found j 0
  rises_between i j le h = omega (arith, rises_far i (j - i) (omega arith), ap (λ k. get_or found k 0) (there i j le))
    where
      there : (a b : ℕ) → a ≤ b → a + (b - a) ≡ b
      there a b h = omega arith

module _ (deadlines : List ℕ) (limit : ℕ) where
  -- the place m is offered
  decide_taken : (found : List ℕ) (m : ℕ) → DecidedBelow deadlines limit found m → m < length deadlines → get_or deadlines m 0 < limit → DecidedBelow deadlines limit (found ++ m ∷ []) (m + 1)
  decide_taken found m d inside early = record {
    sound = λ j h. sound_by j h (cases_lt j (length found));
    rising = λ j h. rising_by j h (cases_lt (j + 1) (length found));
    complete = λ h low within soon. complete_by h within soon low (cases_lt h m);
  }
    where
      sound_by : (j : ℕ) → j < length (found ++ m ∷ []) → (j < length found) ⊎ (length found ≤ j) → (get_or (found ++ m ∷ []) j 0 < length deadlines) × (get_or deadlines (get_or (found ++ m ∷ []) j 0) 0 < limit) × (get_or (found ++ m ∷ []) j 0 < m + 1)
      sound_by j h (inl low) =
          let e = get_or_low found m j low in
          let s = d.sound j low in
          (omega (arith, e, s.0), omega (arith, ap (λ k. get_or deadlines k 0) e, s.1), omega (arith, e, s.2))
      sound_by j h (inr high) =
          let e = get_or_end found m j (omega (arith, length_end found m)) in
          (omega (arith, e), omega (arith, ap (λ k. get_or deadlines k 0) e), omega (arith, e))

      rising_by : (j : ℕ) → j + 1 < length (found ++ m ∷ []) → (j + 1 < length found) ⊎ (length found ≤ j + 1) → get_or (found ++ m ∷ []) j 0 < get_or (found ++ m ∷ []) (j + 1) 0
      rising_by j h (inl low) = omega (arith, get_or_low found m j (omega arith), get_or_low found m (j + 1) low, d.rising j low)
      rising_by j h (inr high) =
          let inside_j : j < length found = omega (arith, length_end found m) in
          omega (arith, get_or_low found m j inside_j, get_or_end found m (j + 1) (omega (arith, length_end found m)), (d.sound j inside_j).2)

      complete_by : (h : ℕ) → h < length deadlines → get_or deadlines h 0 < limit → h < m + 1 → (h < m) ⊎ (m ≤ h) → (j : ℕ) × (j < length (found ++ m ∷ [])) × (get_or (found ++ m ∷ []) j 0 ≡ h)
      complete_by h within soon low (inl below) =
          let c = d.complete h below within soon in
          (c.0, omega (arith, c.1, length_end found m), get_or_low found m c.0 c.1 ∙ c.2)
      complete_by h within soon low (inr above) = (length found, omega (arith, length_end found m), get_or_end found m (length found) refl ∙ omega arith)

  -- places that are not earlier are passed over
  skip : (found : List ℕ) (m n : ℕ) → m ≤ n → DecidedBelow deadlines limit found m → ((k : ℕ) → m ≤ k → k < n → k < length deadlines → get_or deadlines k 0 < limit → ⊥) → DecidedBelow deadlines limit found n
  skip found m n le d none = record {
    sound = λ j h. let s = d.sound j h in (s.0, s.1, omega (arith, s.2));
    rising = d.rising;
    complete = λ h low within soon. by h low within soon (cases_lt h m);
  }
    where
      by : (h : ℕ) → h < n → h < length deadlines → get_or deadlines h 0 < limit → (h < m) ⊎ (m ≤ h) → (j : ℕ) × (j < length found) × (get_or found j 0 ≡ h)
      by h low within soon (inl below) = d.complete h below within soon
      by h low within soon (inr above) = absurd (none h above low within soon)

  -- what was found stays where it is
  pub record Extends (found more : List ℕ) : Type 0 where
    pub longer : length found ≤ length more
    pub same : (j : ℕ) → j < length found → get_or more j 0 ≡ get_or found j 0

  -- the list after the place m is offered
  abbrev pub offered : List ℕ → ℕ → List ℕ
  offered found m = cond (is_earlier deadlines limit m) (found ++ m ∷ []) found

  both_true : (a b : Bool) → (a && b) ≡ true → (a ≡ true) × (b ≡ true)
  both_true true true h = (refl, refl)
  both_true true false h = absurd (true≢false (sym h))
  both_true false b h = absurd (true≢false (sym h))

  both_false : (a b : Bool) → (a && b) ≡ false → a ≡ true → b ≡ true → ⊥
  both_false true true h p q = true≢false h
  both_false true false h p q = true≢false (sym q)
  both_false false b h p q = true≢false (sym p)

  pub decide : (found : List ℕ) (m : ℕ) → DecidedBelow deadlines limit found m → DecidedBelow deadlines limit (offered found m) (m + 1) × Extends found (offered found m)
  decide found m d = by (is_earlier deadlines limit m) refl
    where
      by : (b : Bool) → is_earlier deadlines limit m ≡ b → DecidedBelow deadlines limit (cond b (found ++ m ∷ []) found) (m + 1) × Extends found (cond b (found ++ m ∷ []) found)
      by true e =
          let t = both_true (ltb m (length deadlines)) (ltb (get_or deadlines m 0) limit) e in
          (decide_taken found m d (ltb-true m (length deadlines) t.0) (ltb-true (get_or deadlines m 0) limit t.1), record { longer = omega (arith, length_end found m); same = λ j h. get_or_low found m j h })
      by false e = (
        skip found m (m + 1) (omega arith) d (λ k lo hi inside soon.
            let is : k ≡ m = omega arith in
            both_false (ltb m (length deadlines)) (ltb (get_or deadlines m 0) limit) e (lt-ltb m (length deadlines) (omega (arith, is))) (lt-ltb (get_or deadlines m 0) limit (omega (arith, ap (λ j. get_or deadlines j 0) is)))),
        record { longer = omega arith; same = λ j h. refl },
      )

  pub offered_length : (found : List ℕ) (m : ℕ) → length found ≤ length (offered found m)
  offered_length found m = by (is_earlier deadlines limit m)
    where
      by : (b : Bool) → length found ≤ length (cond b (found ++ m ∷ []) found)
      by true = omega (arith, length_end found m)
      by false = omega arith

  -- the i-th place that was found: no place before those below it is missed
  module _ (o : IsOrdered deadlines) (found : List ℕ) (i : ℕ) (w : Walked deadlines limit found i) where
    -- an earlier place that is not yet decided has one above it that is not yet done
    above_is_ahead : (k : ℕ) → w.m ≤ k → k < length deadlines → get_or deadlines k 0 < limit → (k - 1) / 2 < w.m → (j : ℕ) × (i ≤ j) × (j < length found) × (get_or found j 0 ≡ (k - 1) / 2)
    above_is_ahead k le inside soon low =
        let c = w.decided.complete ((k - 1) / 2) low (omega arith) (omega (arith, o.up k (omega (arith, w.some, le)) inside)) in
        by c.0 c.1 c.2 (cases_lt c.0 i)
      where
        by : (j : ℕ) → j < length found → get_or found j 0 ≡ (k - 1) / 2 → (j < i) ⊎ (i ≤ j) → (j : ℕ) × (i ≤ j) × (j < length found) × (get_or found j 0 ≡ (k - 1) / 2)
        by j h e (inl below) = absurd (omega (arith, e, w.done j below h, le, w.some))
        by j h e (inr ahead) = (j, ahead, h, e)

    pub step : (at : ℕ) → i < length found → at ≡ get_or found i 0 → (more : List ℕ) → more ≡ offered (offered found (2 * at + 1)) (2 * at + 2) → Walked deadlines limit more (i + 1)
    step at here is more made =
        let low : at < w.m = omega (arith, is, (w.decided.sound i here).2) in
        let next : w.m ≤ 2 * at + 1 = omega (arith, is, w.ahead i (omega arith) here) in
        let passed = skip found w.m (2 * at + 1) next w.decided (λ k le below inside soon.
        let a = above_is_ahead k le inside soon (omega arith) in
        omega (arith, a.3, rises_between found w.decided.rising i a.0 a.1 a.2)) in
        let left = decide found (2 * at + 1) passed in
        let right = decide (offered found (2 * at + 1)) (2 * at + 2) (subst (DecidedBelow deadlines limit (offered found (2 * at + 1))) (one_more at) left.0) in
        subst (λ l. Walked deadlines limit l (i + 1)) (sym made) (record {
          m = 2 * at + 2 + 1;
          some = omega arith;
          decided = right.0;
          done = λ j below h. done_by j (omega arith) left.1 right.1 next (cases_lt j i);
          ahead = λ j le h.
              omega (arith, rises_between (offered (offered found (2 * at + 1)) (2 * at + 2)) right.0.rising i j (omega arith) h, right.1.same i (omega (arith, left.1.longer)), left.1.same i here, is);
        })
      where
        one_more : (n : ℕ) → 2 * n + 1 + 1 ≡ 2 * n + 2
        one_more n = omega arith

        done_by : (j : ℕ) → j < i + 1 → Extends found (offered found (2 * at + 1)) → Extends (offered found (2 * at + 1)) (offered (offered found (2 * at + 1)) (2 * at + 2)) → w.m ≤ 2 * at + 1 → (j < i) ⊎ (i ≤ j)
            → 2 * get_or (offered (offered found (2 * at + 1)) (2 * at + 2)) j 0 + 2 < 2 * at + 2 + 1
        done_by j low l r next (inl below) = omega (arith, r.same j (omega (arith, l.longer)), l.same j (omega arith), w.done j below (omega arith), next)
        done_by j low l r next (inr same) =
            let e : j ≡ i = omega arith in
            omega (arith, r.same j (omega (arith, l.longer)), l.same j (omega arith), ap (λ k. get_or found k 0) e, is)

    -- at the end all are found
    pub all_found : length found ≤ i → IsAllEarlier deadlines limit found
    all_found over = record {
      sound = λ j h. let s = w.decided.sound j h in (s.0, s.1);
      rising = w.decided.rising;
      complete = λ h inside soon. w.decided.complete h (decided_to h h (omega arith) inside soon) inside soon;
    }
      where
        by : (h : ℕ) → h < length deadlines → get_or deadlines h 0 < limit → (h < w.m) ⊎ (w.m ≤ h) → (w.m ≤ h → (h - 1) / 2 < w.m) → h < w.m
        by h inside soon (inl low) above = low
        by h inside soon (inr high) above =
            let a = above_is_ahead h high inside soon (above high) in
            absurd (omega (arith, a.1, a.2, over))

        decided_to : (fuel h : ℕ) → h ≤ fuel → h < length deadlines → get_or deadlines h 0 < limit → h < w.m
        decided_to zero h le inside soon = omega (arith, w.some)
        decided_to (suc fuel) h le inside soon = by h inside soon (cases_lt h w.m) (λ high. decided_to fuel ((h - 1) / 2) (omega (arith, w.some, high)) (omega arith) (omega (arith, o.up h (omega (arith, w.some, high)) inside)))

    -- there are no more of them than places
    pub within : i < length found → i < length deadlines
    within here = omega (arith, rises_between found w.decided.rising 0 i (omega arith) here, (w.decided.sound i here).0)

-- an element that is there, whatever the default
pub same_default : (xs : List ℕ) (i d e : ℕ) → i < length xs → get_or xs i d ≡ get_or xs i e
same_default [] i d e h = absurd (omega arith)
same_default (x ∷ xs) zero d e h = refl
same_default (x ∷ xs) (suc i) d e h = same_default xs i d e (omega arith)

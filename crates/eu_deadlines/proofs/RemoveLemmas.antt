-- A position whose entry stands last in the heap is taken out, and the last position takes its number.
use Rattle.std.proofs.Common.{◌≡◌, ◌≢◌, ℕ, suc, zero, ◌+◌, ◌-◌, ◌<◌, ◌≤◌, ◌⊎◌, inl, inr, List, [], ◌∷◌, map, length, take, get_or, set, refl, sym, ap, ◌∙◌, arith}
use Rattle.std.specs.List.{swap_remove}
use Rattle.std.proofs.Math.ListN.{length-set}
use Rattle.std.proofs.lemmas.Bool.{cases_eq, cases_lt}
use Rattle.std.proofs.lemmas.List.{ext_get_or}
use Rattle.eu_deadlines.specs.Heap.{AreLinked, by_position}
use Rattle.eu_deadlines.proofs.LinkLemmas.{get_or_map, length_map, at_set, off_set}

pub get_or_taken : (xs : List ℕ) (m k : ℕ) → k < m → get_or (take m xs) k 0 ≡ get_or xs k 0
get_or_taken xs zero k h = absurd (omega arith)
get_or_taken [] (suc m) k h = refl
get_or_taken (x ∷ xs) (suc m) zero h = refl
get_or_taken (x ∷ xs) (suc m) (suc k) h = get_or_taken xs m k (omega arith)

pub length_taken : (xs : List ℕ) (m : ℕ) → m ≤ length xs → length (take m xs) ≡ m
length_taken xs zero h = refl
length_taken [] (suc m) h = absurd (omega arith)
length_taken (x ∷ xs) (suc m) h = ap suc (length_taken xs m (omega arith))

module _ (positions positions' places places' : List ℕ) (p m : ℕ) (l : AreLinked positions places) (size : length positions ≡ m + 1) (hp : p < m + 1) (last : get_or places p 0 ≡ m)
    (long : length positions' ≡ m) (plong : length places' ≡ m)
    (moved : p < m → get_or places' p 0 ≡ get_or places m 0) (stay : (k : ℕ) → k ≢ p → k < m → get_or places' k 0 ≡ get_or places k 0)
    (of_moved : p < m → get_or positions' (get_or places' p 0) 0 ≡ p) (of_stay : (k : ℕ) → k < m → (p < m → k ≢ get_or places' p 0) → get_or positions' k 0 ≡ get_or positions k 0) where
  place_is : (a b : ℕ) → a < m + 1 → b < m + 1 → get_or places a 0 ≡ get_or places b 0 → a ≡ b
  place_is a b ha hb e = sym (l.back a (omega (arith, size))).1 ∙ ap (λ k. get_or positions k 0) e ∙ (l.back b (omega (arith, size))).1

  -- where the last position stands, it is not last
  below : p < m → get_or places m 0 < m
  below h = by (cases_eq (get_or places m 0) m)
    where
      by : (get_or places m 0 ≡ m) ⊎ (get_or places m 0 ≢ m) → get_or places m 0 < m
      by (inl e) = absurd (omega (arith, place_is m p (omega arith) hp (e ∙ sym last), h))
      by (inr ne) = omega (arith, size, (l.back m (omega (arith, size))).0, ne)

  kept_to : (k : ℕ) → k < m → (p < m → k ≢ get_or places' p 0) → (get_or positions' k 0 < m) × (get_or places' (get_or positions' k 0) 0 ≡ k)
  kept_to k hk other =
      let t = l.to k (omega (arith, size)) in
      let o = of_stay k hk other in
      let not_p : get_or positions k 0 ≢ p = λ e. omega (arith, hk, sym t.1 ∙ ap (λ q. get_or places q 0) e ∙ last) in
      let inside = by t.0 t.1 not_p (cases_eq (get_or positions k 0) m) in
      (omega (arith, o, inside), ap (λ q. get_or places' q 0) o ∙ stay (get_or positions k 0) not_p inside ∙ t.1)
    where
      by : get_or positions k 0 < length positions → get_or places (get_or positions k 0) 0 ≡ k → get_or positions k 0 ≢ p → (get_or positions k 0 ≡ m) ⊎ (get_or positions k 0 ≢ m) → get_or positions k 0 < m
      by h e not_p (inl is) =
          let low : p < m = omega (arith, hp, λ (same : p ≡ m). not_p (is ∙ sym same)) in
          absurd (other low (sym e ∙ ap (λ q. get_or places q 0) is ∙ sym (moved low)))
      by h e not_p (inr ne) = omega (arith, size, h, ne)

  to_by : (k : ℕ) → k < m → (p < m) ⊎ (m ≤ p) → (k ≡ get_or places' p 0) ⊎ (k ≢ get_or places' p 0) → (get_or positions' k 0 < m) × (get_or places' (get_or positions' k 0) 0 ≡ k)
  to_by k hk (inl low) (inl e) =
      let o : get_or positions' k 0 ≡ p = ap (λ j. get_or positions' j 0) e ∙ of_moved low in
      (omega (arith, o, low), ap (λ q. get_or places' q 0) o ∙ sym e)
  to_by k hk (inl low) (inr ne) = kept_to k hk (λ _. ne)
  to_by k hk (inr high) _ = kept_to k hk (λ low. absurd (omega (arith, low, high)))

  place_below : (q : ℕ) → q < m → q ≢ p → get_or places q 0 < m
  place_below q hq ne = by (cases_eq (get_or places q 0) m)
    where
      by : (get_or places q 0 ≡ m) ⊎ (get_or places q 0 ≢ m) → get_or places q 0 < m
      by (inl e) = absurd (ne (place_is q p (omega arith) hp (e ∙ sym last)))
      by (inr other) = omega (arith, size, (l.back q (omega (arith, size))).0, other)

  back_by : (q : ℕ) → q < m → (q ≡ p) ⊎ (q ≢ p) → (get_or places' q 0 < m) × (get_or positions' (get_or places' q 0) 0 ≡ q)
  back_by q hq (inl e) =
      let low : p < m = omega (arith, e, hq) in
      let o : get_or places' q 0 ≡ get_or places' p 0 = ap (λ k. get_or places' k 0) e in
      (omega (arith, o, moved low, below low), ap (λ k. get_or positions' k 0) o ∙ of_moved low ∙ sym e)
  back_by q hq (inr ne) =
      let o = stay q ne hq in
      let inside = place_below q hq ne in (
        omega (arith, o, inside),
        ap (λ k. get_or positions' k 0) o ∙ of_stay (get_or places q 0) inside (λ low e. omega (arith, hq, place_is q m (omega arith) (omega arith) (e ∙ moved low))) ∙ (l.back q (omega (arith, size))).1,
      )

  pub dropped_links : AreLinked positions' places'
  dropped_links = record {
    long = plong ∙ sym long;
    to = λ k hk. let t = to_by k (omega (arith, long)) (cases_lt p m) (cases_eq k (get_or places' p 0)) in (omega (arith, long, t.0), t.1);
    back = λ q hq. let t = back_by q (omega (arith, long)) (cases_eq q p) in (omega (arith, long, t.0), t.1);
  }

  -- the deadlines that are seen
  pub dropped_seen : (deadlines deadlines' : List ℕ) → deadlines' ≡ take m deadlines → by_position deadlines' places' ≡ swap_remove (by_position deadlines places) p 0
  dropped_seen deadlines deadlines' cut = ext_get_or 0 _ _
      (length_map (λ h. get_or deadlines' h 0) places' ∙ plong ∙ sym (right_length ∙ sizes))
      (λ q hq.
      let inside : q < m = omega (arith, length_map (λ h. get_or deadlines' h 0) places', plong) in
      get_or_map (λ h. get_or deadlines' h 0) places' q (omega (arith, plong)) ∙ ap (λ xs. get_or xs (get_or places' q 0) 0) cut ∙ by q inside (cases_eq q p)
      ∙ sym (ap (λ n. get_or (take n (set seen p (get_or seen n 0))) q 0) sizes ∙ get_or_taken (set seen p (get_or seen m 0)) m q inside))
    where
      seen : List ℕ
      seen = map (λ h. get_or deadlines h 0) places

      all : length seen ≡ m + 1
      all = length_map (λ h. get_or deadlines h 0) places ∙ l.long ∙ size

      sizes : length seen - 1 ≡ m
      sizes = omega (arith, all)

      right_length : length (swap_remove seen p 0) ≡ length seen - 1
      right_length = length_taken (set seen p (get_or seen (length seen - 1) 0)) (length seen - 1) (omega (arith, length-set seen p (get_or seen (length seen - 1) 0)))

      by : (q : ℕ) → q < m → (q ≡ p) ⊎ (q ≢ p) → get_or (take m deadlines) (get_or places' q 0) 0 ≡ get_or (set seen p (get_or seen m 0)) q 0
      by q inside (inl e) =
          let low : p < m = omega (arith, e, inside) in
          let o : get_or places' q 0 ≡ get_or places m 0 = ap (λ k. get_or places' k 0) e ∙ moved low in
          ap (λ h. get_or (take m deadlines) h 0) o ∙ get_or_taken deadlines m (get_or places m 0) (below low)
          ∙ sym (at_set seen p (get_or seen m 0) q (omega (arith, all, low)) e ∙ get_or_map (λ h. get_or deadlines h 0) places m (omega (arith, l.long, size)))
      by q inside (inr ne) =
          ap (λ h. get_or (take m deadlines) h 0) (stay q ne inside) ∙ get_or_taken deadlines m (get_or places q 0) (place_below q inside ne)
          ∙ sym (off_set seen p (get_or seen m 0) q ne ∙ get_or_map (λ h. get_or deadlines h 0) places q (omega (arith, l.long, size)))

-- both ways in which it goes
module _ (positions places places' : List ℕ) (p m : ℕ) (l : AreLinked positions places) (size : length positions ≡ m + 1) (hp : p < m + 1) (last : get_or places p 0 ≡ m) (plong : length places' ≡ m)
    (moved : p < m → get_or places' p 0 ≡ get_or places m 0) (stay : (k : ℕ) → k ≢ p → k < m → get_or places' k 0 ≡ get_or places k 0) where
  cut_length : length (take m positions) ≡ m
  cut_length = length_taken positions m (omega (arith, size))

  pub linked_at_end : m ≤ p → AreLinked (take m positions) places'
  linked_at_end high = dropped_links positions (take m positions) places places' p m l size hp last cut_length plong moved stay (λ low. absurd (omega (arith, low, high))) (λ k hk _. get_or_taken positions m k hk)

  pub any_seen : (deadlines deadlines' : List ℕ) → deadlines' ≡ take m deadlines → by_position deadlines' places' ≡ swap_remove (by_position deadlines places) p 0
  any_seen deadlines deadlines' cut = by (cases_lt p m)
    where
      by : (p < m) ⊎ (m ≤ p) → by_position deadlines' places' ≡ swap_remove (by_position deadlines places) p 0
      by (inr high) = dropped_seen positions (take m positions) places places' p m l size hp last cut_length plong moved stay (λ low. absurd (omega (arith, low, high))) (λ k hk _. get_or_taken positions m k hk) deadlines deadlines' cut
      by (inl low) =
          let q = get_or places' p 0 in
          let q_low : get_or places' p 0 < m = omega (arith, moved low, below_last low) in
          dropped_seen positions (set (take m positions) q p) places places' p m l size hp last (length-set (take m positions) q p ∙ cut_length) plong moved stay
          (λ _. at_set (take m positions) q p q (omega (arith, cut_length, q_low)) refl)
          (λ k hk other. off_set (take m positions) q p k (other low) ∙ get_or_taken positions m k hk) deadlines deadlines' cut
        where
          below_last : p < m → get_or places m 0 < m
          below_last h = by_eq (cases_eq (get_or places m 0) m)
            where
              by_eq : (get_or places m 0 ≡ m) ⊎ (get_or places m 0 ≢ m) → get_or places m 0 < m
              by_eq (inl e) = absurd (omega (arith, sym (l.back m (omega (arith, size))).1 ∙ ap (λ k. get_or positions k 0) (e ∙ sym last) ∙ (l.back p (omega (arith, size))).1, h))
              by_eq (inr ne) = omega (arith, size, (l.back m (omega (arith, size))).0, ne)

-- What keeps each position linked with its place, and each deadline where it is seen.
use Rattle.std.proofs.Common.{◌≡◌, ◌≢◌, ℕ, suc, zero, ◌+◌, ◌<◌, ◌≤◌, ◌⊎◌, inl, inr, List, [], ◌∷◌, map, length, get_or, set, refl, sym, ap, ◌∙◌, arith, get_or-set_same, get_or-set_other}
use Rattle.std.specs.List.{SwappedAt, swap}
use Rattle.std.proofs.lemmas.List.Edits.{swapped_from_swap, length-swap}
use Rattle.std.proofs.Math.ListN.{length-set}
use Rattle.std.proofs.Common.{◌++◌, take}
use Rattle.std.proofs.Math.Seq.{take-append_seam}
use Rattle.std.proofs.lemmas.Bool.{cases_eq, cases_lt}
use Rattle.eu_deadlines.proofs.WalkLemmas.{get_or_low, get_or_end, length_end}
use Rattle.std.proofs.lemmas.List.{ext_get_or}
use Rattle.eu_deadlines.specs.Heap.{AreLinked, by_position}
use Rattle.eu_deadlines.proofs.OrderLemmas.{Exchanged}

pub get_or_map : (f : ℕ → ℕ) (xs : List ℕ) (k : ℕ) → k < length xs → get_or (map f xs) k 0 ≡ f (get_or xs k 0)
get_or_map f [] k h = absurd (omega arith)
get_or_map f (x ∷ xs) zero h = refl
get_or_map f (x ∷ xs) (suc k) h = get_or_map f xs k (omega arith)

pub length_map : (f : ℕ → ℕ) (xs : List ℕ) → length (map f xs) ≡ length xs
length_map f [] = refl
length_map f (x ∷ xs) = ap suc (length_map f xs)

pub exchanged : (xs ys : List ℕ) (a b : ℕ) → length ys ≡ length xs → SwappedAt xs ys a b → Exchanged xs ys a b
exchanged xs ys a b long s = record { long = long; at_a = s.0 0; at_b = s.1 0; rest = λ k na nb. s.2 k 0 na nb }

-- an element after one write, by cases on its index
pub at_set : (xs : List ℕ) (i v k : ℕ) → i < length xs → k ≡ i → get_or (set xs i v) k 0 ≡ v
at_set xs i v k h e = ap (λ j. get_or (set xs i v) j 0) e ∙ get_or-set_same xs i v 0 h

pub off_set : (xs : List ℕ) (i v k : ℕ) → k ≢ i → get_or (set xs i v) k 0 ≡ get_or xs k 0
off_set xs i v k ne = get_or-set_other xs i k v 0 ne

module _ (positions positions' places places' : List ℕ) (a b : ℕ) (l : AreLinked positions places) (ha : a < length positions) (hb : b < length positions) (apart : a ≢ b) (x : Exchanged positions positions' a b)
    (long : length places' ≡ length places) (to_a : get_or places' (get_or positions b 0) 0 ≡ a) (to_b : get_or places' (get_or positions a 0) 0 ≡ b)
    (others : (p : ℕ) → p ≢ get_or positions a 0 → p ≢ get_or positions b 0 → get_or places' p 0 ≡ get_or places p 0) where
  of_is : (k j : ℕ) → k < length positions → j < length positions → get_or positions k 0 ≡ get_or positions j 0 → k ≡ j
  of_is k j hk hj e = sym (l.to k hk).1 ∙ ap (λ p. get_or places p 0) e ∙ (l.to j hj).1

  to_by : (k : ℕ) → k < length positions' → (k ≡ a) ⊎ (k ≢ a) → (k ≡ b) ⊎ (k ≢ b) → (get_or positions' k 0 < length positions') × (get_or places' (get_or positions' k 0) 0 ≡ k)
  to_by k hk (inl e) _ =
      let o : get_or positions' k 0 ≡ get_or positions b 0 = ap (λ j. get_or positions' j 0) e ∙ x.at_a in
      (omega (arith, o, x.long, (l.to b hb).0), ap (λ p. get_or places' p 0) o ∙ to_a ∙ sym e)
  to_by k hk (inr ne) (inl e) =
      let o : get_or positions' k 0 ≡ get_or positions a 0 = ap (λ j. get_or positions' j 0) e ∙ x.at_b in
      (omega (arith, o, x.long, (l.to a ha).0), ap (λ p. get_or places' p 0) o ∙ to_b ∙ sym e)
  to_by k hk (inr na) (inr nb) =
      let inside : k < length positions = omega (arith, x.long) in
      let o : get_or positions' k 0 ≡ get_or positions k 0 = x.rest k na nb in (
        omega (arith, o, x.long, (l.to k inside).0),
        ap (λ p. get_or places' p 0) o ∙ others (get_or positions k 0) (λ e. na (of_is k a inside ha e)) (λ e. nb (of_is k b inside hb e)) ∙ (l.to k inside).1,
      )

  back_by : (p : ℕ) → p < length positions' → (p ≡ get_or positions a 0) ⊎ (p ≢ get_or positions a 0) → (p ≡ get_or positions b 0) ⊎ (p ≢ get_or positions b 0) → (get_or places' p 0 < length positions') × (get_or positions' (get_or places' p 0) 0 ≡ p)
  back_by p hp (inl e) _ =
      let o : get_or places' p 0 ≡ b = ap (λ j. get_or places' j 0) e ∙ to_b in
      (omega (arith, o, x.long), ap (λ k. get_or positions' k 0) o ∙ x.at_b ∙ sym e)
  back_by p hp (inr ne) (inl e) =
      let o : get_or places' p 0 ≡ a = ap (λ j. get_or places' j 0) e ∙ to_a in
      (omega (arith, o, x.long), ap (λ k. get_or positions' k 0) o ∙ x.at_a ∙ sym e)
  back_by p hp (inr na) (inr nb) =
      let inside : p < length positions = omega (arith, x.long) in
      let o : get_or places' p 0 ≡ get_or places p 0 = others p na nb in (
        omega (arith, o, x.long, (l.back p inside).0),
        ap (λ k. get_or positions' k 0) o ∙ x.rest (get_or places p 0) (λ e. na (sym (l.back p inside).1 ∙ ap (λ k. get_or positions k 0) e)) (λ e. nb (sym (l.back p inside).1 ∙ ap (λ k. get_or positions k 0) e)) ∙ (l.back p inside).1,
      )

  pub exchange_links : AreLinked positions' places'
  exchange_links = record {
    long = omega (arith, long, x.long, l.long);
    to = λ k hk. to_by k hk (cases_eq k a) (cases_eq k b);
    back = λ p hp. back_by p hp (cases_eq p (get_or positions a 0)) (cases_eq p (get_or positions b 0));
  }

  -- the same deadlines are seen
  module _ (deadlines deadlines' : List ℕ) (y : Exchanged deadlines deadlines' a b) where
    seen_by : (p : ℕ) → p < length places → (p ≡ get_or positions a 0) ⊎ (p ≢ get_or positions a 0) → (p ≡ get_or positions b 0) ⊎ (p ≢ get_or positions b 0) → get_or deadlines' (get_or places' p 0) 0 ≡ get_or deadlines (get_or places p 0) 0
    seen_by p hp (inl e) _ =
        ap (λ q. get_or deadlines' (get_or places' q 0) 0) e ∙ ap (λ k. get_or deadlines' k 0) to_b ∙ y.at_b ∙ sym (ap (λ q. get_or deadlines (get_or places q 0) 0) e ∙ ap (λ k. get_or deadlines k 0) (l.to a ha).1)
    seen_by p hp (inr ne) (inl e) =
        ap (λ q. get_or deadlines' (get_or places' q 0) 0) e ∙ ap (λ k. get_or deadlines' k 0) to_a ∙ y.at_a ∙ sym (ap (λ q. get_or deadlines (get_or places q 0) 0) e ∙ ap (λ k. get_or deadlines k 0) (l.to b hb).1)
    seen_by p hp (inr na) (inr nb) =
        let inside : p < length positions = omega (arith, l.long) in
        ap (λ k. get_or deadlines' k 0) (others p na nb)
        ∙ y.rest (get_or places p 0) (λ e. na (sym (l.back p inside).1 ∙ ap (λ k. get_or positions k 0) e)) (λ e. nb (sym (l.back p inside).1 ∙ ap (λ k. get_or positions k 0) e))

    pub exchange_seen : by_position deadlines' places' ≡ by_position deadlines places
    exchange_seen = ext_get_or 0 _ _ (length_map _ places' ∙ long ∙ sym (length_map _ places)) (λ p hp.
        let inside : p < length places = omega (arith, length_map (λ h. get_or deadlines' h 0) places', long) in
        get_or_map (λ h. get_or deadlines' h 0) places' p (omega (arith, long)) ∙ seen_by p inside (cases_eq p (get_or positions a 0)) (cases_eq p (get_or positions b 0)) ∙ sym (get_or_map (λ h. get_or deadlines h 0) places p inside))

-- the writes that `exchange` makes
module _ (positions positions' places : List ℕ) (a b : ℕ) (l : AreLinked positions places) (ha : a < length positions) (hb : b < length positions) (apart : a ≢ b) (x : Exchanged positions positions' a b) where
  abbrev pub written : List ℕ
  written = set (set places (get_or positions' a 0) a) (get_or positions' b 0) b

  long_w : length written ≡ length places
  long_w = length-set (set places (get_or positions' a 0) a) (get_or positions' b 0) b ∙ length-set places (get_or positions' a 0) a

  positions_apart : get_or positions b 0 ≢ get_or positions' b 0
  positions_apart e = apart (sym (l.to a ha).1 ∙ ap (λ p. get_or places p 0) (sym (e ∙ x.at_b)) ∙ (l.to b hb).1)

  to_a_w : get_or written (get_or positions b 0) 0 ≡ a
  to_a_w = off_set (set places (get_or positions' a 0) a) (get_or positions' b 0) b (get_or positions b 0) positions_apart ∙ at_set places (get_or positions' a 0) a (get_or positions b 0) (omega (arith, l.long, x.at_a, (l.to b hb).0)) (sym x.at_a)

  to_b_w : get_or written (get_or positions a 0) 0 ≡ b
  to_b_w = at_set (set places (get_or positions' a 0) a) (get_or positions' b 0) b (get_or positions a 0) (omega (arith, length-set places (get_or positions' a 0) a, l.long, x.at_b, (l.to a ha).0)) (sym x.at_b)

  others_w : (p : ℕ) → p ≢ get_or positions a 0 → p ≢ get_or positions b 0 → get_or written p 0 ≡ get_or places p 0
  others_w p na nb = off_set (set places (get_or positions' a 0) a) (get_or positions' b 0) b p (λ e. na (e ∙ x.at_b)) ∙ off_set places (get_or positions' a 0) a p (λ e. nb (e ∙ x.at_a))

  pub written_links : AreLinked positions' written
  written_links = exchange_links positions positions' places written a b l ha hb apart x long_w to_a_w to_b_w others_w

  pub written_seen : (deadlines deadlines' : List ℕ) → Exchanged deadlines deadlines' a b → by_position deadlines' written ≡ by_position deadlines places
  written_seen deadlines deadlines' y = exchange_seen positions positions' places written a b l ha hb apart x long_w to_a_w to_b_w others_w deadlines deadlines' y

pub exchanged_by_swap : (xs ys : List ℕ) (a b : ℕ) → a < length xs → b < length xs → ys ≡ swap xs a b → Exchanged xs ys a b
exchanged_by_swap xs ys a b ha hb e =
    let s = swapped_from_swap xs ys a b 0 ha hb e in
    record { long = ap length e ∙ length-swap xs a b; at_a = s.0; at_b = s.1; rest = λ k na nb. s.2 k na nb }

-- what a write through a slice of a vector leaves
pub kept : (xs zs : List ℕ) (n : ℕ) → n ≡ length xs → take n (xs ++ zs) ≡ xs
kept xs zs n e = ap (λ k. take k (xs ++ zs)) e ∙ take-append_seam xs zs

-- one more position
pub pushed_seen : (deadlines places : List ℕ) (d n : ℕ) → n ≡ length deadlines → ((p : ℕ) → p < length places → get_or places p 0 < length deadlines) → by_position (deadlines ++ d ∷ []) (places ++ n ∷ []) ≡ by_position deadlines places ++ d ∷ []
pushed_seen deadlines places d n e inside = ext_get_or 0 _ _
    (length_map at (places ++ n ∷ []) ∙ length_end places n ∙ sym (length_end (by_position deadlines places) d ∙ ap (λ k. k + 1) (length_map (λ h. get_or deadlines h 0) places)))
    (λ p hp.
    let short : p < length places + 1 = omega (arith, length_map at (places ++ n ∷ []), length_end places n) in
    get_or_map at (places ++ n ∷ []) p (omega (arith, length_end places n)) ∙ by p short (cases_lt p (length places)))
  where
    at : ℕ → ℕ
    at h = get_or (deadlines ++ d ∷ []) h 0

    by : (p : ℕ) → p < length places + 1 → (p < length places) ⊎ (length places ≤ p) → get_or (deadlines ++ d ∷ []) (get_or (places ++ n ∷ []) p 0) 0 ≡ get_or (by_position deadlines places ++ d ∷ []) p 0
    by p short (inl low) =
        ap (λ h. get_or (deadlines ++ d ∷ []) h 0) (get_or_low places n p low) ∙ get_or_low deadlines d (get_or places p 0) (inside p low)
        ∙ sym (get_or_low (by_position deadlines places) d p (omega (arith, length_map (λ h. get_or deadlines h 0) places)) ∙ get_or_map (λ h. get_or deadlines h 0) places p low)
    by p short (inr high) =
        ap (λ h. get_or (deadlines ++ d ∷ []) h 0) (get_or_end places n p (omega arith)) ∙ get_or_end deadlines d n e
        ∙ sym (get_or_end (by_position deadlines places) d p (omega (arith, length_map (λ h. get_or deadlines h 0) places)))

-- a new deadline of a position
pub set_seen : (deadlines positions places : List ℕ) (p d at : ℕ) → AreLinked positions places → length deadlines ≡ length positions → p < length places → at ≡ get_or places p 0 → by_position (set deadlines at d) places ≡ set (by_position deadlines places) p d
set_seen deadlines positions places p d at l long hp is = ext_get_or 0 _ _
    (length_map (λ h. get_or (set deadlines at d) h 0) places ∙ sym (length-set (by_position deadlines places) p d ∙ length_map (λ h. get_or deadlines h 0) places))
    (λ q hq.
    let inside : q < length places = omega (arith, length_map (λ h. get_or (set deadlines at d) h 0) places) in
    get_or_map (λ h. get_or (set deadlines at d) h 0) places q inside ∙ by q inside (cases_eq q p))
  where
    by : (q : ℕ) → q < length places → (q ≡ p) ⊎ (q ≢ p) → get_or (set deadlines at d) (get_or places q 0) 0 ≡ get_or (set (by_position deadlines places) p d) q 0
    by q inside (inl e) =
        at_set deadlines at d (get_or places q 0) (omega (arith, is, l.long, long, (l.back p (omega (arith, l.long))).0)) (ap (λ r. get_or places r 0) e ∙ sym is)
        ∙ sym (at_set (by_position deadlines places) p d q (omega (arith, length_map (λ h. get_or deadlines h 0) places)) e)
    by q inside (inr ne) =
        off_set deadlines at d (get_or places q 0) (λ e. ne (sym (l.back q (omega (arith, l.long))).1 ∙ ap (λ k. get_or positions k 0) (e ∙ is) ∙ (l.back p (omega (arith, l.long))).1))
        ∙ sym (off_set (by_position deadlines places) p d q ne ∙ get_or_map (λ h. get_or deadlines h 0) places q inside)

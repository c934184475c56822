-- Steps of a sift, and its ends.
use Rattle.std.proofs.Common.{◌≡◌, ◌≢◌, ℕ, ◌-◌, ◌/◌, ◌<◌, ◌≤◌, ◌⊎◌, inl, inr, List, length, get_or, ap, arith}
use Rattle.std.proofs.lemmas.Bool.{cases_eq}
use Rattle.eu_deadlines.specs.Heap.{RisesFrom, SinksFrom}

-- the list ys has the entries of xs, but that those at a and b have changed places
pub record Exchanged (xs ys : List ℕ) (a b : ℕ) : Type 0 where
  pub long : length ys ≡ length xs
  pub at_a : get_or ys a 0 ≡ get_or xs b 0
  pub at_b : get_or ys b 0 ≡ get_or xs a 0
  pub rest : (k : ℕ) → k ≢ a → k ≢ b → get_or ys k 0 ≡ get_or xs k 0

module _ (xs ys : List ℕ) (h : ℕ) where
  -- the entry at h is earlier than the one above it, and they change places
  module _ (r : RisesFrom xs h) (above : 0 < h) (within : h < length xs) (early : get_or xs h 0 < get_or xs ((h - 1) / 2) 0) (x : Exchanged xs ys ((h - 1) / 2) h) where
    up_others : (k : ℕ) → 0 < k → k < length ys → k ≢ (h - 1) / 2 → get_or ys ((k - 1) / 2) 0 ≤ get_or ys k 0
    up_others k pos inside not_p = by (cases_eq k h) (cases_eq ((k - 1) / 2) h) (cases_eq ((k - 1) / 2) ((h - 1) / 2))
      where
        by : (k ≡ h) ⊎ (k ≢ h) → ((k - 1) / 2 ≡ h) ⊎ ((k - 1) / 2 ≢ h) → ((k - 1) / 2 ≡ (h - 1) / 2) ⊎ ((k - 1) / 2 ≢ (h - 1) / 2) → get_or ys ((k - 1) / 2) 0 ≤ get_or ys k 0
        by (inl e) _ _ = omega (arith, ap (λ j. get_or ys j 0) e, ap (λ j. get_or ys ((j - 1) / 2) 0) e, x.at_a, x.at_b)
        by (inr ne) (inl e) _ = omega (arith, ap (λ j. get_or ys j 0) e, x.at_b, x.rest k not_p ne, r.around k pos (omega (arith, x.long)) e above)
        by (inr ne) (inr pe) (inl e) = omega (arith, ap (λ j. get_or ys j 0) e, ap (λ j. get_or xs j 0) e, x.at_a, x.rest k not_p ne, r.others k pos (omega (arith, x.long)) ne)
        by (inr ne) (inr pe) (inr qe) = omega (arith, x.rest ((k - 1) / 2) qe pe, x.rest k not_p ne, r.others k pos (omega (arith, x.long)) ne)

    pub rises : RisesFrom ys ((h - 1) / 2)
    rises = record {
      others = up_others;
      around = λ k pos inside e top.
          let far : get_or ys (((h - 1) / 2 - 1) / 2) 0 ≡ get_or xs (((h - 1) / 2 - 1) / 2) 0 = x.rest _ (omega arith) (omega arith) in
          let own : get_or xs (((h - 1) / 2 - 1) / 2) 0 ≤ get_or xs ((h - 1) / 2) 0 = r.others ((h - 1) / 2) top (omega arith) (omega arith) in
          around_by k pos inside e far own (cases_eq k h);
    }
      where
        around_by : (k : ℕ) → 0 < k → k < length ys → (k - 1) / 2 ≡ (h - 1) / 2 → get_or ys (((h - 1) / 2 - 1) / 2) 0 ≡ get_or xs (((h - 1) / 2 - 1) / 2) 0 → get_or xs (((h - 1) / 2 - 1) / 2) 0 ≤ get_or xs ((h - 1) / 2) 0
            → (k ≡ h) ⊎ (k ≢ h) → get_or ys (((h - 1) / 2 - 1) / 2) 0 ≤ get_or ys k 0
        around_by k pos inside e far own (inl same) = omega (arith, far, own, ap (λ j. get_or ys j 0) same, x.at_b)
        around_by k pos inside e far own (inr ne) = omega (arith, far, own, x.rest k (omega arith) ne, r.others k pos (omega (arith, x.long)) ne, ap (λ j. get_or xs j 0) e)

  -- the entry at c, the earliest below h, is earlier than that at h, and they change places
  module _ (c : ℕ) (s : SinksFrom xs h) (below : (c - 1) / 2 ≡ h) (after : 0 < c) (within : c < length xs) (early : get_or xs c 0 < get_or xs h 0)
      (least : (k : ℕ) → 0 < k → k < length xs → (k - 1) / 2 ≡ h → get_or xs c 0 ≤ get_or xs k 0) (x : Exchanged xs ys h c) where
    down_others : (k : ℕ) → 0 < k → k < length ys → (k - 1) / 2 ≢ c → get_or ys ((k - 1) / 2) 0 ≤ get_or ys k 0
    down_others k pos inside not_c = by (cases_eq k c) (cases_eq k h) (cases_eq ((k - 1) / 2) h)
      where
        by : (k ≡ c) ⊎ (k ≢ c) → (k ≡ h) ⊎ (k ≢ h) → ((k - 1) / 2 ≡ h) ⊎ ((k - 1) / 2 ≢ h) → get_or ys ((k - 1) / 2) 0 ≤ get_or ys k 0
        by (inl e) _ _ = omega (arith, ap (λ j. get_or ys j 0) e, ap (λ j. get_or ys ((j - 1) / 2) 0) e, ap (λ j. get_or ys j 0) below, x.at_a, x.at_b)
        by (inr ne) (inl e) _ =
            let far : get_or ys ((h - 1) / 2) 0 ≡ get_or xs ((h - 1) / 2) 0 = x.rest _ (omega arith) (omega arith) in
            omega (arith, far, ap (λ j. get_or ys j 0) e, ap (λ j. get_or ys ((j - 1) / 2) 0) e, x.at_a, s.around c after within below (omega arith))
        by (inr ne) (inr he) (inl e) = omega (arith, ap (λ j. get_or ys j 0) e, x.at_a, x.rest k he ne, least k pos (omega (arith, x.long)) e)
        by (inr ne) (inr he) (inr pe) = omega (arith, x.rest ((k - 1) / 2) pe not_c, x.rest k he ne, s.others k pos (omega (arith, x.long)) pe)

    pub sinks : SinksFrom ys c
    sinks = record {
      others = down_others;
      around = λ k pos inside e top.
          omega (arith, ap (λ j. get_or ys j 0) below, ap (λ j. get_or xs j 0) e, x.at_a, x.rest k (omega arith) (omega arith), s.others k pos (omega (arith, x.long)) (omega arith));
    }

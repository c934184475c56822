-- What stands at places of a list, and what a change of the list or of the places leaves there
use Rattle.std.proofs.Common.{◌≡◌, ℕ, zero, suc, ◌+◌, ◌-◌, ◌<◌, ◌≤◌, Bool, true, false, cond, not, ◌&&◌, List, [], ◌∷◌, ◌++◌, map, filter, length, get_or, set, take, drop, slice_get, refl, sym, ap, ◌∙◌, Option, None, Some, arith, true≢false}
use Rattle.std.specs.List.{insert, remove, swap_remove, prefix_len}
use Rattle.std.specs.List.Sorted.{IsPartitionedBy, IsPartitionPoint}
use Rattle.std.specs.Option.{option_map_or}
use Rattle.std.proofs.lemmas.List.{length-map, map-append, map-set, map_more, take-map, drop-map, get_or-map}
use Rattle.std.proofs.lemmas.List.Sums.{prefix_len_is}
use Rattle.std.proofs.lemmas.Option.{slice_get-get_or, slice_get_within}
use Rattle.eu_store.specs.Order.{at_places}

one_more : (n : ℕ) → suc n ≡ 1 + n
one_more n = omega arith

-- what a list shows after its last one took the place of another
pub map_swapped : {A B : Type 0} (f : A → B) (xs : List A) (i : ℕ) (d : A) (e : B) → 0 < length xs → map f (swap_remove xs i d) ≡ swap_remove (map f xs) i e
map_swapped f xs i d e some =
    let last = get_or xs (length xs - 1) d in
    sym (take-map f (length xs - 1) (set xs i last))
    ∙ ap (take (length xs - 1)) (map-set f xs i last ∙ ap (set (map f xs) i) (sym (get_or-map f xs (length xs - 1) d e (omega (arith, some)))))
    ∙ ap (λ n. take (n - 1) (set (map f xs) i (get_or (map f xs) (n - 1) e))) (sym (length-map xs f))

module _ {A : Type 0} where
  pub same_some : (x y : A) → ◌≡◌ {A = Option A} (Some x) (Some y) → x ≡ y
  same_some x y h = cc

  pub at_get : (xs : List A) (ps : List ℕ) (gs : List A) (i d : ℕ) (e : A) → at_places xs ps ≡ map Some gs → i < length gs → slice_get xs (get_or ps i d) ≡ Some (get_or gs i e)
  at_get xs ps [] i d e h low = absurd (omega arith)
  at_get xs [] (g ∷ gs) i d e h low = absurd (empty h)
    where
      empty : ◌≡◌ {A = List (Option A)} [] (Some g ∷ map Some gs) → ⊥
      empty h = cc
  at_get xs (p ∷ ps) (g ∷ gs) zero d e h low = head h
    where
      head : ◌≡◌ {A = List (Option A)} (slice_get xs p ∷ at_places xs ps) (Some g ∷ map Some gs) → slice_get xs p ≡ Some g
      head h = cc
  at_get xs (p ∷ ps) (g ∷ gs) (suc i) d e h low = at_get xs ps gs i d e (tail h) (omega (arith, low))
    where
      tail : ◌≡◌ {A = List (Option A)} (slice_get xs p ∷ at_places xs ps) (Some g ∷ map Some gs) → at_places xs ps ≡ map Some gs
      tail h = cc

  pub at_length : (xs : List A) (ps : List ℕ) (gs : List A) → at_places xs ps ≡ map Some gs → length ps ≡ length gs
  at_length xs ps gs h = sym (length-map ps (λ p. slice_get xs p)) ∙ ap length h ∙ length-map gs Some

  pub at_from : (xs : List A) (ps : List ℕ) (gs : List A) → length ps ≡ length gs → ((i d : ℕ) (e : A) → i < length gs → slice_get xs (get_or ps i d) ≡ Some (get_or gs i e)) → at_places xs ps ≡ map Some gs
  at_from xs [] [] long h = refl
  at_from xs [] (g ∷ gs) long h = absurd (omega (arith, long))
  at_from xs (p ∷ ps) [] long h = absurd (omega (arith, long))
  at_from xs (p ∷ ps) (g ∷ gs) long h = λ j. h 0 p g (omega arith) j ∷ at_from xs ps gs (omega (arith, long)) (λ i d e low. h (suc i) d e (omega (arith, low))) j

  -- a place less
  pub at_removed : (xs : List A) (ps : List ℕ) (gs : List A) (i : ℕ) → length ps ≡ length gs
      → ((r d : ℕ) (e : A) → r < length gs → (r ≡ i → ⊥) → slice_get xs (get_or ps r d) ≡ Some (get_or gs r e)) → at_places xs (remove ps i) ≡ map Some (remove gs i)
  at_removed xs [] [] zero long h = refl
  at_removed xs [] [] (suc i) long h = refl
  at_removed xs [] (g ∷ gs) i long h = absurd (omega (arith, long))
  at_removed xs (p ∷ ps) [] i long h = absurd (omega (arith, long))
  at_removed xs (p ∷ ps) (g ∷ gs) zero long h = at_from xs ps gs (omega (arith, long)) (λ r d e low. h (suc r) d e (omega (arith, low)) (λ same. omega (arith, same)))
  at_removed xs (p ∷ ps) (g ∷ gs) (suc i) long h =
      λ j. h 0 p g (omega arith) (λ same. omega (arith, same)) j ∷ at_removed xs ps gs i (omega (arith, long)) (λ r d e low apart. h (suc r) d e (omega (arith, low)) (λ same. apart (omega (arith, same)))) j

  get_more : (xs ys : List A) (p : ℕ) (g : A) → slice_get xs p ≡ Some g → slice_get (xs ++ ys) p ≡ Some g
  get_more [] ys p g h = absurd (nothing h)
    where
      nothing : ◌≡◌ {A = Option A} None (Some g) → ⊥
      nothing e = cc
  get_more (x ∷ xs) ys zero g h = h
  get_more (x ∷ xs) ys (suc p) g h = get_more xs ys p g h

  get_end : (xs : List A) (x : A) → slice_get (xs ++ x ∷ []) (length xs) ≡ Some x
  get_end [] x = refl
  get_end (y ∷ xs) x = get_end xs x

  -- a place more: that of one more at the end
  pub at_inserted : (xs : List A) (ps : List ℕ) (gs : List A) (i : ℕ) (x : A) → at_places xs ps ≡ map Some gs → at_places (xs ++ x ∷ []) (insert ps i (length xs)) ≡ map Some (insert gs i x)
  at_inserted xs ps gs i x h = at_more ps gs i h
    where
      at_same : (ps : List ℕ) (gs : List A) → at_places xs ps ≡ map Some gs → at_places (xs ++ x ∷ []) ps ≡ map Some gs
      at_same ps gs h = at_from (xs ++ x ∷ []) ps gs (at_length xs ps gs h) (λ i d e low. get_more xs (x ∷ []) (get_or ps i d) (get_or gs i e) (at_get xs ps gs i d e h low))

      at_more : (ps : List ℕ) (gs : List A) (i : ℕ) → at_places xs ps ≡ map Some gs → at_places (xs ++ x ∷ []) (insert ps i (length xs)) ≡ map Some (insert gs i x)
      at_more ps gs zero h = λ j. get_end xs x j ∷ at_same ps gs h j
      at_more [] [] (suc i) h = λ j. get_end xs x j ∷ []
      at_more [] (g ∷ gs) (suc i) h = absurd (omega (arith, at_length xs [] (g ∷ gs) h))
      at_more (p ∷ ps) [] (suc i) h = absurd (omega (arith, at_length xs (p ∷ ps) [] h))
      at_more (p ∷ ps) (g ∷ gs) (suc i) h = λ j. get_more xs (x ∷ []) p g (at_get xs (p ∷ ps) (g ∷ gs) 0 p g h (omega arith)) j ∷ at_more ps gs i (tail h) j
        where
          tail : ◌≡◌ {A = List (Option A)} (slice_get xs p ∷ at_places xs ps) (Some g ∷ map Some gs) → at_places xs ps ≡ map Some gs
          tail h = cc

  pub at_part : (xs : List A) (ps : List ℕ) (gs : List A) (n low : ℕ) → at_places xs ps ≡ map Some gs → at_places xs (take n (drop low ps)) ≡ map Some (take n (drop low gs))
  at_part xs ps gs n low h =
      sym (take-map (λ p. slice_get xs p) n (drop low ps)) ∙ ap (take n) (sym (drop-map (λ p. slice_get xs p) low ps)) ∙ ap (λ os. take n (drop low os)) h ∙ ap (take n) (drop-map Some low gs) ∙ take-map Some n (drop low gs)

  -- ---- a swap with the last

  pub get_take : (m x : ℕ) (xs : List A) → x < m → slice_get (take m xs) x ≡ slice_get xs x
  get_take zero x xs h = absurd (omega arith)
  get_take (suc m) x [] h = refl
  get_take (suc m) zero (y ∷ xs) h = refl
  get_take (suc m) (suc x) (y ∷ xs) h = get_take m x xs (omega arith)

  pub get_set_same : (xs : List A) (i : ℕ) (y : A) → i < length xs → slice_get (set xs i y) i ≡ Some y
  get_set_same [] i y h = absurd (omega arith)
  get_set_same (x ∷ xs) zero y h = refl
  get_set_same (x ∷ xs) (suc i) y h = get_set_same xs i y (omega arith)

  pub get_set_other : (xs : List A) (i j : ℕ) (y : A) → (j ≡ i → ⊥) → slice_get (set xs i y) j ≡ slice_get xs j
  get_set_other [] i j y apart = refl
  get_set_other (x ∷ xs) zero zero y apart = absurd (apart refl)
  get_set_other (x ∷ xs) zero (suc j) y apart = refl
  get_set_other (x ∷ xs) (suc i) zero y apart = refl
  get_set_other (x ∷ xs) (suc i) (suc j) y apart = get_set_other xs i j y (λ same. apart (ap suc same))

  pub swapped_same : (xs : List A) (p : ℕ) (d : A) → p < length xs - 1 → slice_get (take (length xs - 1) (set xs p (get_or xs (length xs - 1) d))) p ≡ slice_get xs (length xs - 1)
  swapped_same xs p d low =
      get_take (length xs - 1) p (set xs p (get_or xs (length xs - 1) d)) low ∙ get_set_same xs p (get_or xs (length xs - 1) d) (omega (arith, low)) ∙ sym (slice_get-get_or xs (length xs - 1) d (omega (arith, low)))

  pub swapped_other : (xs : List A) (p x : ℕ) (d : A) → x < length xs - 1 → (x ≡ p → ⊥) → slice_get (take (length xs - 1) (set xs p (get_or xs (length xs - 1) d))) x ≡ slice_get xs x
  swapped_other xs p x d low apart = get_take (length xs - 1) x (set xs p (get_or xs (length xs - 1) d)) low ∙ get_set_other xs p x (get_or xs (length xs - 1) d) apart

  -- one more of what stands at places
  pub at_one_more : (vs : List A) (ps : List ℕ) (xs : List A) (i : ℕ) (x : A) → i < length ps → map Some xs ≡ at_places vs (take i ps) → slice_get vs (get_or ps i 0) ≡ Some x
      → map Some (xs ++ x ∷ []) ≡ at_places vs (take (i + 1) ps)
  at_one_more vs ps xs i x low h there =
      map-append Some xs (x ∷ []) ∙ (λ j. h j ++ sym there j ∷ []) ∙ sym (map_more (λ p. slice_get vs p) ps i 0 low)

  pub same_all : (xs ys : List A) → map (λ (x : A). Some x) xs ≡ map (λ (x : A). Some x) ys → xs ≡ ys
  same_all [] [] h = refl
  same_all [] (y ∷ ys) h = absurd (differ h)
    where
      differ : ◌≡◌ {A = List (Option A)} [] (Some y ∷ map Some ys) → ⊥
      differ h = cc
  same_all (x ∷ xs) [] h = absurd (differ h)
    where
      differ : ◌≡◌ {A = List (Option A)} (Some x ∷ map Some xs) [] → ⊥
      differ h = cc
  same_all (x ∷ xs) (y ∷ ys) h = λ j. head h j ∷ same_all xs ys (tail h) j
    where
      head : ◌≡◌ {A = List (Option A)} (Some x ∷ map Some xs) (Some y ∷ map Some ys) → x ≡ y
      head h = cc

      tail : ◌≡◌ {A = List (Option A)} (Some x ∷ map Some xs) (Some y ∷ map Some ys) → map (λ (x : A). Some x) xs ≡ map (λ (x : A). Some x) ys
      tail h = cc

  pub place_within : (xs : List A) (ps : List ℕ) (gs : List A) (i : ℕ) → at_places xs ps ≡ map Some gs → i < length ps → get_or ps i 0 < length xs
  place_within xs ps [] i h low = absurd (omega (arith, low, at_length xs ps [] h))
  place_within xs ps (g ∷ gs) i h low = slice_get_within xs (get_or ps i 0) (get_or (g ∷ gs) i g) (at_get xs ps (g ∷ gs) i 0 g h (omega (arith, low, at_length xs ps (g ∷ gs) h)))

  -- ---- tests that hold of the first ones alone

  pub filter_none : (t : A → Bool) (gs : List A) → ((i : ℕ) (d : A) → i < length gs → t (get_or gs i d) ≡ false) → filter t gs ≡ []
  filter_none t [] h = refl
  filter_none t (x ∷ gs) h = ap (λ b. cond b (x ∷ filter t gs) (filter t gs)) (h 0 x (omega arith)) ∙ filter_none t gs (λ i d low. h (suc i) d (omega (arith, low)))

  later_false : (t : A → Bool) (x : A) (gs : List A) → IsPartitionedBy t (x ∷ gs) → t x ≡ false → (j : ℕ) (d : A) → j < length (x ∷ gs) → t (get_or (x ∷ gs) j d) ≡ false
  later_false t x gs first fails j d low = by (t (get_or (x ∷ gs) j d)) refl
    where
      by : (b : Bool) → t (get_or (x ∷ gs) j d) ≡ b → t (get_or (x ∷ gs) j d) ≡ false
      by true e = absurd (true≢false (sym (first 0 j d (omega arith) low e) ∙ fails))
      by false e = e

  none_first : (t : A → Bool) (x : A) (gs : List A) → IsPartitionedBy t (x ∷ gs) → t x ≡ false → prefix_len t gs ≡ 0
  none_first t x [] first fails = refl
  none_first t x (y ∷ gs) first fails = ap (λ b. cond b (1 + prefix_len t gs) 0) (later_false t x (y ∷ gs) first fails 1 x (omega arith))

  rest_partitioned : (t : A → Bool) (x : A) (gs : List A) → IsPartitionedBy t (x ∷ gs) → IsPartitionedBy t gs
  rest_partitioned t x gs first i j d le low holds = first (suc i) (suc j) d (omega (arith, le)) (omega (arith, low)) holds

  -- what passes a test, and not a narrower one, where each holds of the first ones alone
  pub segment : (s t : A → Bool) → ((x : A) → s x ≡ true → t x ≡ true) → (gs : List A) → IsPartitionedBy s gs → IsPartitionedBy t gs
      → filter (λ x. t x && not (s x)) gs ≡ take (prefix_len t gs - prefix_len s gs) (drop (prefix_len s gs) gs)
  segment s t narrow [] first_s first_t = refl
  segment s t narrow (x ∷ gs) first_s first_t = by (segment s t narrow gs (rest_partitioned s x gs first_s) (rest_partitioned t x gs first_t)) (s x) (t x) refl refl
    where
      Rest : Type 0
      Rest = filter (λ y. t y && not (s y)) gs ≡ take (prefix_len t gs - prefix_len s gs) (drop (prefix_len s gs) gs)

      test : A → Bool
      test y = t y && not (s y)

      at : (b c : Bool) → s x ≡ b → t x ≡ c
          → cond (c && not b) (x ∷ filter test gs) (filter test gs) ≡ take (cond c (1 + prefix_len t gs) 0 - cond b (1 + prefix_len s gs) 0) (drop (cond b (1 + prefix_len s gs) 0) (x ∷ gs))
          → filter test (x ∷ gs) ≡ take (prefix_len t (x ∷ gs) - prefix_len s (x ∷ gs)) (drop (prefix_len s (x ∷ gs)) (x ∷ gs))
      at b c is_b is_c h =
          (λ i. cond (is_c i && not (is_b i)) (x ∷ filter test gs) (filter test gs)) ∙ h
          ∙ sym (λ i. take (cond (is_c i) (1 + prefix_len t gs) 0 - cond (is_b i) (1 + prefix_len s gs) 0) (drop (cond (is_b i) (1 + prefix_len s gs) 0) (x ∷ gs)))

      none : t x ≡ false → filter test gs ≡ []
      none fails = filter_none test gs (λ i d low. ap (λ b. b && not (s (get_or gs i d))) (later_false t x gs first_t fails (suc i) d (omega (arith, low))))

      both_less : (m n : ℕ) → (1 + m) - (1 + n) ≡ m - n
      both_less m n = omega arith

      one_down : (n : ℕ) → drop (1 + n) (x ∷ gs) ≡ drop n gs
      one_down n = ap (λ m. drop m (x ∷ gs)) (sym (one_more n))

      one_up : (n : ℕ) → take (1 + n) (x ∷ gs) ≡ x ∷ take n gs
      one_up n = ap (λ m. take m (x ∷ gs)) (sym (one_more n))

      by : Rest → (b c : Bool) → s x ≡ b → t x ≡ c → filter test (x ∷ gs) ≡ take (prefix_len t (x ∷ gs) - prefix_len s (x ∷ gs)) (drop (prefix_len s (x ∷ gs)) (x ∷ gs))
      by rest true true is_b is_c = at true true is_b is_c (rest ∙ (λ i. take (sym (both_less (prefix_len t gs) (prefix_len s gs)) i) (sym (one_down (prefix_len s gs)) i)))
      by rest true false is_b is_c = absurd (true≢false (sym (narrow x is_b) ∙ is_c))
      by rest false false is_b is_c = at false false is_b is_c (none is_c)
      by rest false true is_b is_c =
          let zero_s = none_first s x gs first_s is_b in
          let less : prefix_len t gs - prefix_len s gs ≡ prefix_len t gs = omega (arith, zero_s) in
          at false true is_b is_c (ap (λ l. x ∷ l) (rest ∙ (λ i. take (less i) (drop (zero_s i) gs))) ∙ sym (one_up (prefix_len t gs)) ∙ ap (λ n. take n (x ∷ gs)) (less_none (1 + prefix_len t gs)))
        where
          less_none : (n : ℕ) → n ≡ n - 0
          less_none n = omega arith

module _ {A : Type 0} (t : A → Bool) where
  -- a partition's point counts the first ones
  pub point_len : (xs : List A) (n : ℕ) → n ≤ length xs → IsPartitionPoint (λ x. t x ≡ true) (λ x. t x ≡ false) xs n → n ≡ prefix_len t xs
  point_len [] n low point = omega (arith, low)
  point_len (x ∷ xs) n low point = sym (prefix_len_is t (x ∷ xs) n x low (λ k under. point.0 k x (omega arith) under) (λ inside. point.1 n x (omega arith) inside))

  -- the test of what stands at places
  pub at_prefix : (xs : List A) (ps : List ℕ) (gs : List A) → at_places xs ps ≡ map Some gs → prefix_len (λ p. option_map_or t (slice_get xs p) false) ps ≡ prefix_len t gs
  at_prefix xs [] [] h = refl
  at_prefix xs [] (g ∷ gs) h = absurd (differ h)
    where
      differ : ◌≡◌ {A = List (Option A)} [] (Some g ∷ map Some gs) → ⊥
      differ h = cc
  at_prefix xs (p ∷ ps) [] h = absurd (differ h)
    where
      differ : ◌≡◌ {A = List (Option A)} (slice_get xs p ∷ at_places xs ps) [] → ⊥
      differ h = cc
  at_prefix xs (p ∷ ps) (g ∷ gs) h = λ j. cond (option_map_or t (head h j) false) (1 + at_prefix xs ps gs (tail h) j) 0
    where
      head : ◌≡◌ {A = List (Option A)} (slice_get xs p ∷ at_places xs ps) (Some g ∷ map Some gs) → slice_get xs p ≡ Some g
      head h = cc

      tail : ◌≡◌ {A = List (Option A)} (slice_get xs p ∷ at_places xs ps) (Some g ∷ map Some gs) → at_places xs ps ≡ map Some gs
      tail h = cc

-- Keys that pass a test, taken in any order and sorted, are those of the finite map in its order.
use Rattle.std.proofs.Common.{◌≡◌, ◌+◌, T, true≢false, Bool, true, false, cond, ◌||◌, ◌&&◌, List, [], ◌∷◌, length, map, filter, refl, ap, sym, subst, ◌∙◌, None, Some, arith, IsSorted}
use Rattle.std.specs.declared.cmp.Ordering.{Ordering}
use Rattle.std.specs.declared.cmp.Ordering.TheVariants.{Less, Equal, Greater}
use Rattle.std.specs.Option.{option_map_or}
use Rattle.std.specs.List.{IsDistinct, AllByRecursion, list_any}
use Rattle.std.specs.List.Sorted.{IsStrictlySortedBy}
use Rattle.std.specs.FinMap.{from_entries, entries, entries_sorted, get-from_entries, get-entries}
use Rattle.std.specs.FinMap.Entries.{find, is_sorted, below_all, same_entries}
use Rattle.std.specs.Ordering.{eq_by_cmp, is_eq, is_lt, ordering_reverse}
use Rattle.std.specs.Cmp.{IsTotalOrder, eq_by_cmp_equiv}
use Rattle.std.proofs.lemmas.Map.Keys.{IsDistinct-cons, IsDistinct-head, IsDistinct-tail, IsDistinct-from_sorted, apart_from_distinct, sorted_from_all_adjacent, sorted_head, sorted_tail}
use Rattle.eu_model.proofs.EvictionLemmas.{first, second, less}
use Rattle.std.proofs.lemmas.Map.Lookups.{CmpEqualImpliesEq}
use Rattle.std.proofs.lemmas.Map.Made.{length-from_same_keys}

pub both : (a b : Bool) → T a → T b → T (a && b)
both true b p q = q
both false b p q = p

-- neither equal nor after it
rises : {K : Type 0} {R : K → K → Ordering} (o : IsTotalOrder R) (x y : K) → eq_by_cmp R x y ≡ false → is_lt (R y x) ≡ false → R x y ≡ Less
rises {R = R} o x y apart up = by (R x y) refl
  where
    by : (r : Ordering) → R x y ≡ r → R x y ≡ Less
    by Less e = e
    by Equal e = absurd (true≢false (sym (ap is_eq e) ∙ apart))
    by Greater e = absurd (true≢false (sym (ap is_lt (o.antisymm y x ∙ ap ordering_reverse e)) ∙ up))

abbrev tags : {K : Type 0} → List K → List (K × Unit {0})
tags [] = []
tags (k ∷ ks) = (k, tt) ∷ tags ks

module _ {K : Type 0} (R : K → K → Ordering) where
  below_tags : (x : K) (ks : List K) → AllByRecursion (λ y. R x y ≡ Less) ks → T (below_all R x (tags ks))
  below_tags x [] h = tt
  below_tags x (k ∷ ks) h = both _ _ (subst (λ r. T (is_lt r)) (sym h.0) tt) (below_tags x ks h.1)

  is_sorted-tags : (ks : List K) → IsStrictlySortedBy R ks → T (is_sorted R (tags ks))
  is_sorted-tags [] h = tt
  is_sorted-tags (k ∷ ks) h = both _ _ (below_tags k ks (sorted_head R k ks h)) (is_sorted-tags ks (sorted_tail R k ks h))

  -- a tagged list finds the keys that tie
  find-tags : (q : K) (ks : List K) → find R q (tags ks) ≡ cond (list_any (eq_by_cmp R q) ks) (Some tt) None
  find-tags q [] = refl
  find-tags q (k ∷ ks) = by (eq_by_cmp R q k) (find-tags q ks)
    where
      by : (b : Bool) → find R q (tags ks) ≡ cond (list_any (eq_by_cmp R q) ks) (Some tt) None → cond b (Some tt) (find R q (tags ks)) ≡ cond (b || list_any (eq_by_cmp R q) ks) (Some tt) None
      by true e = refl
      by false e = e

module _ {K : Type 0} {R : K → K → Ordering} (o : IsTotalOrder R) (same : CmpEqualImpliesEq R) where
  -- lists in order with the same keys are one
  tags_same : (xs ys : List K) → tags xs ≡ tags ys → xs ≡ ys
  tags_same xs ys e = sym (untag xs) ∙ ap (map (λ p. p.0)) e ∙ untag ys
    where
      untag : (ks : List K) → map (λ p. p.0) (tags ks) ≡ ks
      untag [] = refl
      untag (k ∷ ks) = ap (λ l. k ∷ l) (untag ks)

  pub same_keys : (xs ys : List K) → IsStrictlySortedBy R xs → IsStrictlySortedBy R ys → ((q : K) → list_any (eq_by_cmp R q) xs ≡ list_any (eq_by_cmp R q) ys) → xs ≡ ys
  same_keys xs ys up vp h = tags_same xs ys (same_entries R o same (tags xs) (tags ys) (is_sorted-tags R xs up) (is_sorted-tags R ys vp)
      (λ q. find-tags R q xs ∙ ap (λ b. cond b (Some tt) None) (h q) ∙ sym (find-tags R q ys)))

  -- what `sort` leaves of keys that differ rises
  pub strictly_sorted : (ks : List K) (d : K) → IsSorted R ks → IsDistinct (eq_by_cmp R) ks → IsStrictlySortedBy R ks
  strictly_sorted ks d up apart = sorted_from_all_adjacent o ks d (λ k h.
      rises o _ _ (apart_from_distinct (eq_by_cmp R) ks k (k + 1) d apart (omega arith) h) (up k d (omega arith) h))

module _ {K X : Type 0} (R : K → K → Ordering) where
  -- entries in order have keys in order
  all_below : (x : K) (es : List (K × X)) → T (below_all R x es) → AllByRecursion (λ y. R x y ≡ Less) (map (λ e. e.0) es)
  all_below x [] h = tt
  all_below x (e ∷ es) h = (less _ (first _ _ h), all_below x es (second _ _ h))

  pub sorted_keys : (es : List (K × X)) → T (is_sorted R es) → IsStrictlySortedBy R (map (λ e. e.0) es)
  unfolding IsStrictlySortedBy
  sorted_keys [] h = tt
  sorted_keys (e ∷ es) h = (all_below e.0 es (first _ _ h), sorted_keys es (second _ _ h))

module _ {K X : Type 0} (t : X → Bool) where
  -- the keys of the entries whose values pass the test
  abbrev pub passing : List (K × X) → List K
  passing es = map (λ e. e.0) (filter (λ e. t e.1) es)

  All-passing : (P : K → Type 0) (es : List (K × X)) → AllByRecursion P (map (λ e. e.0) es) → AllByRecursion P (passing es)
  All-passing P [] h = tt
  All-passing P (e ∷ es) h = by (t e.1) (All-passing P es h.1)
    where
      by : (b : Bool) → AllByRecursion P (passing es) → AllByRecursion P (map (λ f. f.0) (cond b (e ∷ filter (λ f. t f.1) es) (filter (λ f. t f.1) es)))
      by true r = (h.0, r)
      by false r = r

  pub IsDistinct-passing : (eq : K → K → Bool) (es : List (K × X)) → IsDistinct eq (map (λ e. e.0) es) → IsDistinct eq (passing es)
  IsDistinct-passing eq [] d = d
  IsDistinct-passing eq (e ∷ es) d = by (t e.1) (IsDistinct-passing eq es (IsDistinct-tail eq e.0 (map (λ f. f.0) es) d))
    where
      by : (b : Bool) → IsDistinct eq (passing es) → IsDistinct eq (map (λ f. f.0) (cond b (e ∷ filter (λ f. t f.1) es) (filter (λ f. t f.1) es)))
      by true r = IsDistinct-cons eq e.0 (passing es) (All-passing (λ y. eq e.0 y ≡ false) es (IsDistinct-head eq e.0 (map (λ f. f.0) es) d)) r
      by false r = r

  sorted-passing : (R : K → K → Ordering) (es : List (K × X)) → IsStrictlySortedBy R (map (λ e. e.0) es) → IsStrictlySortedBy R (passing es)
  unfolding IsStrictlySortedBy
  sorted-passing R [] h = h
  sorted-passing R (e ∷ es) h = by (t e.1) (sorted-passing R es h.1)
    where
      by : (b : Bool) → IsStrictlySortedBy R (passing es) → IsStrictlySortedBy R (map (λ f. f.0) (cond b (e ∷ filter (λ f. t f.1) es) (filter (λ f. t f.1) es)))
      by true r = (All-passing (λ y. R e.0 y ≡ Less) es h.0, r)
      by false r = r

  module _ {R : K → K → Ordering} (o : IsTotalOrder R) where
    no_tie : (q : K) (ks : List K) → AllByRecursion (λ y. eq_by_cmp R q y ≡ false) ks → list_any (eq_by_cmp R q) ks ≡ false
    no_tie q [] h = refl
    no_tie q (k ∷ ks) h = ap (λ b. b || list_any (eq_by_cmp R q) ks) h.0 ∙ no_tie q ks h.1

    tied_alike : (q x : K) (ks : List K) → eq_by_cmp R q x ≡ true → AllByRecursion (λ y. eq_by_cmp R x y ≡ false) ks → AllByRecursion (λ y. eq_by_cmp R q y ≡ false) ks
    tied_alike q x [] e h = tt
    tied_alike q x (k ∷ ks) e h = ((eq_by_cmp_equiv o).congr q x k e ∙ h.0, tied_alike q x ks e h.1)

    -- a key passes where its one value does
    pub any-passing : (q : K) (es : List (K × X)) → IsDistinct (eq_by_cmp R) (map (λ e. e.0) es) → list_any (eq_by_cmp R q) (passing es) ≡ option_map_or t (find R q es) false
    any-passing q [] d = refl
    any-passing q (e ∷ es) d = by (eq_by_cmp R q e.0) (t e.1) refl refl (any-passing q es (IsDistinct-tail (eq_by_cmp R) e.0 (map (λ f. f.0) es) d))
      where
        none : eq_by_cmp R q e.0 ≡ true → list_any (eq_by_cmp R q) (passing es) ≡ false
        none h = no_tie q (passing es) (All-passing (λ y. eq_by_cmp R q y ≡ false) es (tied_alike q e.0 (map (λ f. f.0) es) h (IsDistinct-head (eq_by_cmp R) e.0 (map (λ f. f.0) es) d)))

        left : (c : Bool) → t e.1 ≡ c → list_any (eq_by_cmp R q) (passing (e ∷ es)) ≡ list_any (eq_by_cmp R q) (map (λ f. f.0) (cond c (e ∷ filter (λ f. t f.1) es) (filter (λ f. t f.1) es)))
        left c g = ap (λ b. list_any (eq_by_cmp R q) (map (λ f. f.0) (cond b (e ∷ filter (λ f. t f.1) es) (filter (λ f. t f.1) es)))) g

        right : (b : Bool) → eq_by_cmp R q e.0 ≡ b → option_map_or t (find R q (e ∷ es)) false ≡ option_map_or t (cond b (Some e.1) (find R q es)) false
        right b h = ap (λ c. option_map_or t (cond c (Some e.1) (find R q es)) false) h

        by : (b c : Bool) → eq_by_cmp R q e.0 ≡ b → t e.1 ≡ c → list_any (eq_by_cmp R q) (passing es) ≡ option_map_or t (find R q es) false → list_any (eq_by_cmp R q) (passing (e ∷ es)) ≡ option_map_or t (find R q (e ∷ es)) false
        by true true h g r = left true g ∙ ap (λ b. b || list_any (eq_by_cmp R q) (passing es)) h ∙ sym (right true h ∙ g)
        by true false h g r = left false g ∙ none h ∙ sym (right true h ∙ g)
        by false true h g r = left true g ∙ ap (λ b. b || list_any (eq_by_cmp R q) (passing es)) h ∙ r ∙ sym (right false h)
        by false false h g r = left false g ∙ r ∙ sym (right false h)

  -- the keys that pass are the same in entries in any order and in their map
  pub alike_passing : {R : K → K → Ordering} (o : IsTotalOrder R) (es : List (K × X)) → IsDistinct (eq_by_cmp R) (map (λ e. e.0) es)
      → (q : K) → list_any (eq_by_cmp R q) (passing es) ≡ list_any (eq_by_cmp R q) (passing (entries (from_entries {R = R} es)))
  alike_passing {R} o es apart q =
      let m = from_entries {R = R} es in
      any-passing o q es apart
      ∙ ap (λ v. option_map_or t v false) (sym (get-from_entries o es q) ∙ get-entries m q)
      ∙ sym (any-passing o q (entries m) (IsDistinct-from_sorted R (map (λ e. e.0) (entries m)) (sorted_keys R (entries m) (entries_sorted m))))

  -- the keys that pass, gathered from entries in any order and sorted
  pub gathered : {R : K → K → Ordering} (o : IsTotalOrder R) (same : CmpEqualImpliesEq R) (d : K) (es : List (K × X)) (ks : List K) → IsDistinct (eq_by_cmp R) (map (λ e. e.0) es)
      → IsDistinct (eq_by_cmp R) ks → ((q : K) → list_any (eq_by_cmp R q) ks ≡ list_any (eq_by_cmp R q) (passing es)) → IsSorted R ks → ks ≡ passing (entries (from_entries {R = R} es))
  gathered {R} o same d es ks apart ks_apart alike up =
      let m = from_entries {R = R} es in
      same_keys o same ks (passing (entries m)) (strictly_sorted o same ks d up ks_apart) (sorted-passing R (entries m) (sorted_keys R (entries m) (entries_sorted m)))
      (λ q. alike q ∙ alike_passing o es apart q)

  -- and how many they are
  pub gathered_many : {R : K → K → Ordering} (o : IsTotalOrder R) (es : List (K × X)) (ks : List K) → IsDistinct (eq_by_cmp R) (map (λ e. e.0) es)
      → IsDistinct (eq_by_cmp R) ks → ((q : K) → list_any (eq_by_cmp R q) ks ≡ list_any (eq_by_cmp R q) (passing es)) → length ks ≡ length (passing (entries (from_entries {R = R} es)))
  gathered_many {R} o es ks apart ks_apart alike =
      let m = from_entries {R = R} es in
      let in_order = sorted-passing R (entries m) (sorted_keys R (entries m) (entries_sorted m)) in
      length-from_same_keys (eq_by_cmp_equiv o) ks (passing (entries m)) ks_apart (IsDistinct-from_sorted R (passing (entries m)) in_order)
      (λ q. alike q ∙ alike_passing o es apart q)

-- Entries whose keys pass a test, taken in any order and sorted by their keys, are those of the finite map in its order
use Rattle.std.proofs.Common.{◌≡◌, ◌+◌, ◌<◌, T, Bool, cond, List, [], ◌∷◌, map, filter, length, refl, ap, sym, subst, ◌∙◌, None, Some, arith, IsPermutation, IsSorted}
use Rattle.std.specs.declared.cmp.Ordering.{Ordering}
use Rattle.std.specs.declared.cmp.Ordering.TheVariants.{Less, Equal}
use Rattle.std.specs.List.{IsDistinct, AllByRecursion}
use Rattle.std.specs.List.Sorted.{IsStrictlySortedBy, IsSortedByKey}
use Rattle.std.specs.Borrow.{Bor}
use Rattle.std.specs.Map.{lookup, keys_of}
use Rattle.std.specs.Map.Iter.{deref_pair}
use Rattle.std.specs.FinMap.{from_entries, entries, entries_sorted, get-from_entries, get-entries}
use Rattle.std.specs.FinMap.Entries.{find, is_sorted, below_all, same_entries, where_key, is_sorted-where_key, find-where_key}
use Rattle.std.specs.Ordering.{eq_by_cmp, is_lt}
use Rattle.std.specs.Cmp.{IsTotalOrder, eq_by_cmp_equiv}
use Rattle.std.proofs.lemmas.List.{get_or-map, length-map}
use Rattle.std.proofs.lemmas.List.Sorted.{IsPermutation-map}
use Rattle.std.proofs.lemmas.Map.Keys.{IsDistinct-IsPermutation, sorted_head, sorted_tail}
use Rattle.std.proofs.lemmas.Map.Lookups.{CmpEqualImpliesEq}
use Rattle.std.proofs.lemmas.Map.Made.{IsDistinct-keys_filter}
use Rattle.indexmap.proofs.MapLemmas.{lookup_permutation}
use Rattle.eu_store.proofs.SortedLemmas.{both, strictly_sorted}

module _ {K X : Type 0} (R : K → K → Ordering) where
  below_rows : (x : K) (rows : List (K × X)) → AllByRecursion (λ y. R x y ≡ Less) (keys_of rows) → T (below_all R x rows)
  below_rows x [] h = tt
  below_rows x (r ∷ rows) h = both _ _ (subst (λ o. T (is_lt o)) (sym h.0) tt) (below_rows x rows h.1)

  -- entries whose keys rise are those of a map
  is_sorted_rows : (rows : List (K × X)) → IsStrictlySortedBy R (keys_of rows) → T (is_sorted R rows)
  is_sorted_rows [] h = tt
  is_sorted_rows (r ∷ rows) h = both _ _ (below_rows r.0 rows (sorted_head R r.0 (keys_of rows) h)) (is_sorted_rows rows (sorted_tail R r.0 (keys_of rows) h))

  pub find_is_lookup : (q : K) (es : List (K × X)) → find R q es ≡ lookup (eq_by_cmp R q) es
  find_is_lookup q [] = refl
  find_is_lookup q (e ∷ es) = ap (cond (eq_by_cmp R q e.0) (Some e.1)) (find_is_lookup q es)

  pub gathered_rows : (o : IsTotalOrder R) (same : CmpEqualImpliesEq R) (d : K) (p : K → Bool) (es rows : List (K × X)) → IsDistinct (eq_by_cmp R) (keys_of es)
      → IsPermutation (filter (λ e. p e.0) es) rows → IsSorted R (keys_of rows) → rows ≡ filter (λ e. p e.0) (entries (from_entries {R = R} es))
  gathered_rows o same d p es rows apart moved up =
      let m = from_entries {R = R} es in
      let laws = eq_by_cmp_equiv o in
      let apart_rows = IsDistinct-IsPermutation (eq_by_cmp R) laws.symm (keys_of (where_key R p es)) (keys_of rows) (IsPermutation-map (λ (e : K × X). e.0) _ _ moved) (IsDistinct-keys_filter (eq_by_cmp R) (λ (e : K × X). p e.0) es apart) in
      let in_order = is_sorted_rows rows (strictly_sorted o same (keys_of rows) d up apart_rows) in
      let alike : (q x : K) → R q x ≡ Equal → p x ≡ p q = λ q x e. ap p (sym (same q x e)) in
      same_entries R o same rows (where_key R p (entries m)) in_order (is_sorted-where_key R p (entries m) (entries_sorted m)) (λ q.
      find_is_lookup q rows
      ∙ lookup_permutation laws (where_key R p es) rows moved apart_rows (eq_by_cmp R q) (laws.congr q)
      ∙ sym (find_is_lookup q (where_key R p es))
      ∙ find-where_key R p q (alike q) es
      ∙ ap (λ v. cond (p q) v None) (sym (get-from_entries o es q) ∙ get-entries m q)
      ∙ sym (find-where_key R p q (alike q) (entries m)))

-- what a sort by a key says of the keys
pub keys_sorted : {K Y : Type 0} (R : K → K → Ordering) (key : Y → K) (ys : List Y) → IsSortedByKey key R ys → IsSorted R (map key ys)
keys_sorted R key [] h = λ k d low within. absurd (omega arith)
keys_sorted R key (y ∷ ys) h = λ k d low within.
    let count : length (map key (y ∷ ys)) ≡ length (y ∷ ys) = length-map (y ∷ ys) key in
    let next : k + 1 < length (y ∷ ys) = omega (arith, count) in
    let here : k < length (y ∷ ys) = omega (arith, count) in
    (λ i. is_lt (R (get_or-map key (y ∷ ys) (k + 1) y d next i) (get_or-map key (y ∷ ys) k y d here i)))
    ∙ h k y low next

-- the keys of what is shown
pub keys_shown : {K X : Type 0} (rows : List (Bor K × Bor X)) → map (λ r. r.0.now) rows ≡ keys_of (map deref_pair rows)
keys_shown [] = refl
keys_shown (r ∷ rows) = ap (λ ks. r.0.now ∷ ks) (keys_shown rows)

pub values_shown : {K X : Type 0} (rows : List (Bor K × Bor X)) → map (λ r. r.1.now) rows ≡ map (λ e. e.1) (map deref_pair rows)
values_shown [] = refl
values_shown (r ∷ rows) = ap (λ xs. r.1.now ∷ xs) (values_shown rows)

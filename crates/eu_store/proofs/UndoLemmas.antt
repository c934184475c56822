-- A map is given back what was replaced in it
use Rattle.std.proofs.Common.{◌≡◌, ℕ, zero, suc, ◌+◌, ◌-◌, ◌<◌, ◌≤◌, min, Bool, true, false, cond, List, [], ◌∷◌, ◌++◌, take, get_or, Option, None, Some, length, refl, sym, ap, ◌∙◌, arith}
use Rattle.std.proofs.lemmas.List.{take_more, length-take-le}
use Rattle.std.specs.FinMap.{FinMap, get, remove, get-insert, get-remove, same_map}
use Rattle.std.specs.declared.cmp.Ordering.{Ordering}
use Rattle.std.specs.Ordering.{eq_by_cmp}
use Rattle.eu_model.specs.Machine.{with_value}
use Rattle.eu_base.proofs.KeyLemmas.{equal_of_test}
use Rattle.eu_store.proofs.TableLemmas.{IsKeyed}
use Rattle.eu_store.specs.Removed.{with_values}

module _ {K X : Type 0} {R : K → K → Ordering} {eq : K → K → Bool} (w : IsKeyed R eq) where
  get-with_value : (m : FinMap R X) (k : K) (o : Option X) (q : K) → get (with_value m k o) q ≡ cond (eq_by_cmp R q k) o (get m q)
  get-with_value m k None q = get-remove w.total m k q
  get-with_value m k (Some x) q = get-insert w.total m k x q

  -- a key is given what it had
  pub value_undone : (m : FinMap R X) (k : K) (o : Option X) → with_value (with_value m k o) k (get m k) ≡ m
  value_undone m k o = same_map w.total w.exact _ _ (λ q.
      get-with_value (with_value m k o) k (get m k) q
      ∙ ap (cond (eq_by_cmp R q k) (get m k)) (get-with_value m k o q)
      ∙ elim (eq_by_cmp R q k) as (λ b. eq_by_cmp R q k ≡ b → cond b (get m k) (cond b o (get m q)) ≡ get m q) [
        | true ↦ λ t. sym (ap (get m) (w.exact q k (equal_of_test (R q k) t)))
        | false ↦ λ t. refl
      ] refl)

module _ {K X : Type 0} {R : K → K → Ordering} where
  -- one value more
  with_values-push : (m : FinMap R X) (ks : List K) (vs : List (Option X)) (k : K) (v : Option X) → length vs ≡ length ks
      → with_values m (ks ++ k ∷ []) (vs ++ v ∷ []) ≡ with_values (with_value m k v) ks vs
  with_values-push m [] [] k v e = refl
  with_values-push m [] (u ∷ vs) k v e = absurd (omega (arith, e))
  with_values-push m (j ∷ ks) [] k v e = absurd (omega (arith, e))
  with_values-push m (j ∷ ks) (u ∷ vs) k v e =
      let rest : length vs ≡ length ks = omega (arith, e) in
      ap (λ n. with_value n j u) (with_values-push m ks vs k v rest)

  -- one key more is removed, and what it had is put back
  pub removed_more : {eq : K → K → Bool} → IsKeyed R eq → (m old : FinMap R X) (ks : List K) (vs : List (Option X)) (k : K) (v : Option X) → length vs ≡ length ks → v ≡ get m k
      → with_values m ks vs ≡ old → with_values (remove m k) (ks ++ k ∷ []) (vs ++ v ∷ []) ≡ old
  removed_more w m old ks vs k v e is h =
      with_values-push (remove m k) ks vs k v e ∙ ap (λ n. with_values n ks vs) (ap (with_value (remove m k) k) is ∙ value_undone w m k None) ∙ h

  -- where one list is longer, its rest isn't looked at
  pub with_values-short : (m : FinMap R X) (ks : List K) (vs : List (Option X)) (n : ℕ) → n ≡ min (length ks) (length vs) → with_values m (take n ks) (take n vs) ≡ with_values m ks vs
  with_values-short m [] vs zero e = refl
  with_values-short m [] vs (suc n) e = absurd (omega (arith, e))
  with_values-short m (k ∷ ks) [] zero e = refl
  with_values-short m (k ∷ ks) [] (suc n) e = absurd (omega (arith, e))
  with_values-short m (k ∷ ks) (v ∷ vs) zero e = absurd (omega (arith, e))
  with_values-short m (k ∷ ks) (v ∷ vs) (suc n) e =
      let rest : n ≡ min (length ks) (length vs) = omega (arith, e) in
      ap (λ y. with_value y k v) (with_values-short m ks vs n rest)

  -- one value more is put back
  pub put_more : (m now x : FinMap R X) (ks : List K) (vs : List (Option X)) (left : ℕ) (k d : K) (v e : Option X) → 0 < left → left ≤ length ks → left ≤ length vs
      → k ≡ get_or ks (left - 1) d → v ≡ get_or vs (left - 1) e → now ≡ with_value m k v
      → with_values m (take left ks) (take left vs) ≡ x → with_values now (take (left - 1) ks) (take (left - 1) vs) ≡ x
  put_more m now x ks vs left k d v e some within within_vs k_is v_is put h =
      let n : left ≡ left - 1 + 1 = omega arith in
      let below : left - 1 < length ks = omega arith in
      let below_vs : left - 1 < length vs = omega arith in
      let short : left - 1 ≤ length ks = omega arith in
      let short_vs : left - 1 ≤ length vs = omega arith in
      let keys : take left ks ≡ take (left - 1) ks ++ k ∷ [] = ap (λ i. take i ks) n ∙ take_more ks (left - 1) d below ∙ ap (λ y. take (left - 1) ks ++ y ∷ []) (sym k_is) in
      let values : take left vs ≡ take (left - 1) vs ++ v ∷ [] = ap (λ i. take i vs) n ∙ take_more vs (left - 1) e below_vs ∙ ap (λ y. take (left - 1) vs ++ y ∷ []) (sym v_is) in
      let alike = length-take-le (left - 1) vs short_vs ∙ sym (length-take-le (left - 1) ks short) in
      ap (λ y. with_values y (take (left - 1) ks) (take (left - 1) vs)) put
      ∙ sym (with_values-push m (take (left - 1) ks) (take (left - 1) vs) k v alike)
      ∙ (λ i. with_values m (sym keys i) (sym values i)) ∙ h

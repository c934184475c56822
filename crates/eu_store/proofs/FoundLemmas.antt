-- The keys at places that are found by their deadlines.
use Rattle.std.proofs.Common.{◌≡◌, ℕ, zero, suc, ◌+◌, ◌<◌, ◌≤◌, ◌⊎◌, inl, inr, Bool, true, false, cond, ◌||◌, List, [], ◌∷◌, ◌++◌, map, filter, length, get_or, slice_get, refl, sym, ap, ◌∙◌, Option, Some, None, arith, true≢false}
use Rattle.std.specs.Option.{option_map_or}
use Rattle.std.specs.Map.{keys_of}
use Rattle.std.specs.List.{IsDistinct, list_any}
use Rattle.std.specs.declared.cmp.Ordering.{Ordering}
use Rattle.std.specs.Ordering.{eq_by_cmp}
use Rattle.std.specs.Cmp.{IsTotalOrder, eq_by_cmp_equiv}
use Rattle.std.proofs.lemmas.Bool.{cases_lt}
use Rattle.std.proofs.lemmas.Map.Keys.{apart_from_distinct, IsDistinct-from_apart}
use Rattle.std.proofs.lemmas.List.Folds.{list_any_at}
use Rattle.eu_store.proofs.SortedLemmas.{passing}

-- where a place is, there is an entry
pub entry_there : {A : Type 0} (es : List A) (p : ℕ) → p < length es → (e : A) × (slice_get es p ≡ Some e)
entry_there [] p h = absurd (omega arith)
entry_there (e ∷ es) zero h = (e, refl)
entry_there (e ∷ es) (suc p) h = entry_there es p (omega arith)

module _ {K X : Type 0} where
  pub key_there : (es : List (K × X)) (p : ℕ) (k : K) (v : X) (d : K) → slice_get es p ≡ Some (k, v) → (p < length (keys_of es)) × (get_or (keys_of es) p d ≡ k)
  key_there [] p k v d h = absurd (nothing h)
    where
      nothing : ◌≡◌ {A = Option (K × X)} None (Some (k, v)) → ⊥
      nothing e = cc
  key_there (e ∷ es) zero k v d h = (omega arith, first h)
    where
      first : ◌≡◌ {A = Option (K × X)} (Some e) (Some (k, v)) → e.0 ≡ k
      first h = cc
  key_there (e ∷ es) (suc p) k v d h = let r = key_there es p k v d h in (omega (arith, r.0), r.1)

same_bool : (a b : Bool) → (a ≡ true → b ≡ true) → (b ≡ true → a ≡ true) → a ≡ b
same_bool true b f g = sym (f refl)
same_bool false true f g = g refl
same_bool false false f g = refl

-- a list that has one that passes has it at some place
pub any_place : {K : Type 0} (test : K → Bool) (d : K) (ks : List K) → list_any test ks ≡ true → (j : ℕ) × (j < length ks) × (test (get_or ks j d) ≡ true)
any_place test d [] h = absurd (true≢false (sym h))
any_place test d (k ∷ ks) h = by (test k) refl (any_place test d ks)
  where
    by : (b : Bool) → test k ≡ b → (list_any test ks ≡ true → (j : ℕ) × (j < length ks) × (test (get_or ks j d) ≡ true)) → (j : ℕ) × (j < length (k ∷ ks)) × (test (get_or (k ∷ ks) j d) ≡ true)
    by true e rest = (0, omega arith, e)
    by false e rest = let r = rest (sym (ap (λ b. b || list_any test ks) e) ∙ h) in (suc r.0, omega (arith, r.1), r.2)

module _ {K X : Type 0} (t : X → Bool) (test : K → Bool) where
  -- an entry that passes has its key among those that pass
  passing_has : (es : List (K × X)) (p : ℕ) (k : K) (v : X) → slice_get es p ≡ Some (k, v) → t v ≡ true → test k ≡ true → list_any test (passing t es) ≡ true
  passing_has [] p k v h good equal = absurd (nothing h)
    where
      nothing : ◌≡◌ {A = Option (K × X)} None (Some (k, v)) → ⊥
      nothing e = cc
  passing_has (e ∷ es) zero k v h good equal = by (t e.1) (ap t (second h) ∙ good)
    where
      first : ◌≡◌ {A = Option (K × X)} (Some e) (Some (k, v)) → e.0 ≡ k
      first h = cc

      second : ◌≡◌ {A = Option (K × X)} (Some e) (Some (k, v)) → e.1 ≡ v
      second h = cc

      by : (b : Bool) → b ≡ true → list_any test (map (λ f. f.0) (cond b (e ∷ filter (λ f. t f.1) es) (filter (λ f. t f.1) es))) ≡ true
      by true _ = ap (λ b. b || list_any test (passing t es)) (ap test (first h) ∙ equal)
      by false f = absurd (true≢false (sym f))
  passing_has (e ∷ es) (suc p) k v h good equal = by (t e.1) (passing_has es p k v h good equal)
    where
      or_true : (b : Bool) → (b || true) ≡ true
      or_true true = refl
      or_true false = refl

      by : (b : Bool) → list_any test (passing t es) ≡ true → list_any test (map (λ f. f.0) (cond b (e ∷ filter (λ f. t f.1) es) (filter (λ f. t f.1) es))) ≡ true
      by true r = ap (λ b. test e.0 || b) r ∙ or_true (test e.0)
      by false r = r

  -- and the other way round
  passing_from : (es : List (K × X)) → list_any test (passing t es) ≡ true → (p : ℕ) × (k : K) × (v : X) × (slice_get es p ≡ Some (k, v)) × (t v ≡ true) × (test k ≡ true)
  passing_from [] h = absurd (true≢false (sym h))
  passing_from (e ∷ es) h = by (t e.1) refl (test e.0) refl h (passing_from es)
    where
      by : (b : Bool) → t e.1 ≡ b → (c : Bool) → test e.0 ≡ c → list_any test (map (λ f. f.0) (cond b (e ∷ filter (λ f. t f.1) es) (filter (λ f. t f.1) es))) ≡ true
          → (list_any test (passing t es) ≡ true → (p : ℕ) × (k : K) × (v : X) × (slice_get es p ≡ Some (k, v)) × (t v ≡ true) × (test k ≡ true))
          → (p : ℕ) × (k : K) × (v : X) × (slice_get (e ∷ es) p ≡ Some (k, v)) × (t v ≡ true) × (test k ≡ true)
      by true good true equal some rest = (0, e.0, e.1, refl, good, equal)
      by true good false equal some rest =
          let r = rest (sym (ap (λ b. b || list_any test (passing t es)) equal) ∙ some) in
          (suc r.0, r.1, r.2, r.3, r.4, r.5)
      by false good c equal some rest = let r = rest some in (suc r.0, r.1, r.2, r.3, r.4, r.5)

-- the keys at places that are those of the entries that pass, each once
module _ {K X : Type 0} {R : K → K → Ordering} (o : IsTotalOrder R) (t : X → Bool) (es : List (K × X)) (found : List ℕ) (ks : List K) (d : K)
    (apart : IsDistinct (eq_by_cmp R) (keys_of es)) (long : length ks ≡ length found)
    (told : (j : ℕ) → j < length found → (v : X) × (slice_get es (get_or found j 0) ≡ Some (get_or ks j d, v)))
    (sound : (j : ℕ) (k : K) (v : X) → j < length found → slice_get es (get_or found j 0) ≡ Some (k, v) → t v ≡ true)
    (once : (i j : ℕ) → i < j → j < length found → get_or found i 0 ≡ get_or found j 0 → ⊥)
    (complete : (p : ℕ) (k : K) (v : X) → slice_get es p ≡ Some (k, v) → t v ≡ true → (j : ℕ) × (j < length found) × (get_or found j 0 ≡ p)) where
  keys_apart : (a b : ℕ) (k l : K) (v w : X) → slice_get es a ≡ Some (k, v) → slice_get es b ≡ Some (l, w) → (a ≡ b → ⊥) → eq_by_cmp R k l ≡ false
  keys_apart a b k l v w at_a at_b differ = by (cases_lt a b)
    where
      by : (a < b) ⊎ (b ≤ a) → eq_by_cmp R k l ≡ false
      by (inl below) =
          let x = key_there es a k v d at_a in
          let y = key_there es b l w d at_b in
          (λ i. eq_by_cmp R (sym x.1 i) (sym y.1 i)) ∙ apart_from_distinct (eq_by_cmp R) (keys_of es) a b d apart below y.0
      by (inr above) =
          let x = key_there es a k v d at_a in
          let y = key_there es b l w d at_b in
          let under : b < a = further above in
          (eq_by_cmp_equiv o).symm k l ∙ (λ i. eq_by_cmp R (sym y.1 i) (sym x.1 i)) ∙ apart_from_distinct (eq_by_cmp R) (keys_of es) b a d apart under x.0
        where
          further : b ≤ a → b < a
          further h = by_eq (cases_lt b a)
            where
              by_eq : (b < a) ⊎ (a ≤ b) → b < a
              by_eq (inl low) = low
              by_eq (inr same) = absurd (differ (omega (arith, h, same)))

  pub found_apart : IsDistinct (eq_by_cmp R) ks
  found_apart = IsDistinct-from_apart (eq_by_cmp R) ks (λ i j e below inside.
      let within : j < length found = omega (arith, long) in
      let x = told i (omega (arith, below, within)) in
      let y = told j within in
      (λ n. eq_by_cmp R (other i e (omega (arith, below, inside)) n) (other j e inside n))
      ∙ keys_apart (get_or found i 0) (get_or found j 0) (get_or ks i d) (get_or ks j d) x.0 y.0 x.1 y.1 (once i j below within))
    where
      other : (i : ℕ) (e : K) → i < length ks → get_or ks i e ≡ get_or ks i d
      other i e h = same_default ks i e d h
        where
          same_default : (xs : List K) (i : ℕ) (e f : K) → i < length xs → get_or xs i e ≡ get_or xs i f
          same_default [] i e f h = absurd (omega arith)
          same_default (x ∷ xs) zero e f h = refl
          same_default (x ∷ xs) (suc i) e f h = same_default xs i e f (omega arith)

  pub found_alike : (q : K) → list_any (eq_by_cmp R q) ks ≡ list_any (eq_by_cmp R q) (passing t es)
  found_alike q = same_bool _ _ forth back
    where
      forth : list_any (eq_by_cmp R q) ks ≡ true → list_any (eq_by_cmp R q) (passing t es) ≡ true
      forth h =
          let a = any_place (eq_by_cmp R q) d ks h in
          let within : a.0 < length found = omega (arith, a.1, long) in
          let x = told a.0 within in
          passing_has t (eq_by_cmp R q) es (get_or found a.0 0) (get_or ks a.0 d) x.0 x.1 (sound a.0 (get_or ks a.0 d) x.0 within x.1) a.2

      back : list_any (eq_by_cmp R q) (passing t es) ≡ true → list_any (eq_by_cmp R q) ks ≡ true
      back h =
          let f = passing_from t (eq_by_cmp R q) es h in
          let c = complete f.0 f.1 f.2 f.3 f.4 in
          let x = told c.0 c.1 in
          let at : slice_get es (get_or found c.0 0) ≡ Some (f.1, f.2) = ap (slice_get es) c.2 ∙ f.3 in
          let same : get_or ks c.0 d ≡ f.1 = first (sym x.1 ∙ at) in
          list_any_at (eq_by_cmp R q) ks c.0 d (omega (arith, c.1, long)) (ap (eq_by_cmp R q) same ∙ f.5)
        where
          first : {k l : K} {v w : X} → ◌≡◌ {A = Option (K × X)} (Some (k, v)) (Some (l, w)) → k ≡ l
          first {k = k} h = ap (λ (o : Option (K × X)). option_map_or (λ e. e.0) o k) h

-- one more at the end of a list
pub at_low : {K : Type 0} (ks : List K) (k d : K) (j : ℕ) → j < length ks → get_or (ks ++ k ∷ []) j d ≡ get_or ks j d
at_low [] k d j h = absurd (omega arith)
at_low (x ∷ ks) k d zero h = refl
at_low (x ∷ ks) k d (suc j) h = at_low ks k d j (omega arith)

pub at_end : {K : Type 0} (ks : List K) (k d : K) → get_or (ks ++ k ∷ []) (length ks) d ≡ k
at_end [] k d = refl
at_end (x ∷ ks) k d = at_end ks k d

pub length_end : {K : Type 0} (ks : List K) (k : K) → length (ks ++ k ∷ []) ≡ length ks + 1
length_end [] k = refl
length_end (x ∷ ks) k = omega (arith, length_end ks k)

-- and the key at one more place
pub told_more : {K X : Type 0} (es : List (K × X)) (places : List ℕ) (ks : List K) (k d : K) (v : X) (n : ℕ) → length ks ≡ n
    → ((j : ℕ) → j < n → (w : X) × (slice_get es (get_or places j 0) ≡ Some (get_or ks j d, w))) → slice_get es (get_or places n 0) ≡ Some (k, v)
    → (j : ℕ) → j < n + 1 → (w : X) × (slice_get es (get_or places j 0) ≡ Some (get_or (ks ++ k ∷ []) j d, w))
told_more {K = K} {X = X} es places ks k d v n long told there j h = by (cases_lt j n)
  where
    by : (j < n) ⊎ (n ≤ j) → (w : X) × (slice_get es (get_or places j 0) ≡ Some (get_or (ks ++ k ∷ []) j d, w))
    by (inl low) = let r = told j low in (r.0, r.1 ∙ ap (λ (x : K). Some (x, r.0)) (sym (at_low ks k d j (omega (arith, low, long)))))
    by (inr high) =
        let is : j ≡ n = omega (arith, h, high) in
        (v, ap (λ i. slice_get es (get_or places i 0)) is ∙ there ∙ ap (λ (x : K). Some (x, v)) (sym (ap (λ i. get_or (ks ++ k ∷ []) i d) (is ∙ sym long) ∙ at_end ks k d)))

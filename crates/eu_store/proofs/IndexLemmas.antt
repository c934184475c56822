-- A change of the table is the same change of its deadlines.
use Rattle.std.proofs.Common.{◌≡◌, ℕ, suc, zero, ◌+◌, ◌-◌, ◌<◌, Bool, true, cond, List, [], ◌∷◌, ◌++◌, length, set, take, get_or, position, slice_get, refl, sym, ap, subst, ◌∙◌, arith, Option, Some, None}
use Rattle.std.specs.Option.{option_map}
use Rattle.std.specs.List.{swap_remove}
use Rattle.std.specs.Map.{keys_of, values_of, lookup}
use Rattle.std.specs.Cmp.{IsEquivalence, eq_by_cmp_equiv}
use Rattle.std.proofs.lemmas.List.Quantifiers.{position-Some}
use Rattle.indexmap.specs.IndexMap.{IndexMap, IsUnique, set_value_at}
use Rattle.indexmap.proofs.CallerLemmas.{updates-with_value_at}
use Rattle.indexmap.proofs.MapLemmas.{index-first}
use Rattle.indexmap.proofs.RemoveLemmas.{own_first}
use Rattle.std.proofs.lemmas.Map.Entries.{lookup_from_place}
use Rattle.std.proofs.lemmas.Option.{slice_get-map}
use Rattle.eu_base.specs.declared.names.Key.{Key}
use Rattle.eu_base.specs.Values.{key_cmp, key_eq}
use Rattle.eu_base.proofs.KeyLemmas.{equal_of_test, keys_total, keys_exact, key_eq-ties, key_eq-tie}
use Rattle.eu_model.specs.declared.views.Listed.{Listed}
use Rattle.eu_store.specs.Stored.{deadline_of, deadlines}

-- ---- the list of deadlines

pub deadlines-set : (es : List (Key × Listed)) (i : ℕ) (l : Listed) → deadlines (set_value_at es i l) ≡ set (deadlines es) i (deadline_of l)
deadlines-set [] i l = refl
deadlines-set (e ∷ es) zero l = refl
deadlines-set (e ∷ es) (suc i) l = ap (λ ds. deadline_of e.1 ∷ ds) (deadlines-set es i l)

pub deadlines-push : (es : List (Key × Listed)) (k : Key) (l : Listed) → deadlines (es ++ (k, l) ∷ []) ≡ deadlines es ++ deadline_of l ∷ []
deadlines-push [] k l = refl
deadlines-push (e ∷ es) k l = ap (λ ds. deadline_of e.1 ∷ ds) (deadlines-push es k l)

pub length-deadlines : (es : List (Key × Listed)) → length (deadlines es) ≡ length es
length-deadlines [] = refl
length-deadlines (e ∷ es) = ap suc (length-deadlines es)

pub deadline_at : (es : List (Key × Listed)) (i : ℕ) (d : Key × Listed) → i < length es → deadline_of (get_or es i d).1 ≡ get_or (deadlines es) i 0
deadline_at [] i d h = absurd (omega arith)
deadline_at (e ∷ es) zero d h = refl
deadline_at (e ∷ es) (suc i) d h = deadline_at es i d (omega arith)

deadlines-take : (n : ℕ) (es : List (Key × Listed)) → deadlines (take n es) ≡ take n (deadlines es)
deadlines-take zero es = refl
deadlines-take (suc n) [] = refl
deadlines-take (suc n) (e ∷ es) = ap (λ ds. deadline_of e.1 ∷ ds) (deadlines-take n es)

deadlines-put : (es : List (Key × Listed)) (i : ℕ) (f : Key × Listed) → deadlines (set es i f) ≡ set (deadlines es) i (deadline_of f.1)
deadlines-put [] i f = refl
deadlines-put (e ∷ es) zero f = refl
deadlines-put (e ∷ es) (suc i) f = ap (λ ds. deadline_of e.1 ∷ ds) (deadlines-put es i f)

pub deadlines-swap_remove : (es : List (Key × Listed)) (i : ℕ) (d : Key × Listed) → 0 < length es → deadlines (swap_remove es i d) ≡ swap_remove (deadlines es) i 0
deadlines-swap_remove es i d some =
    deadlines-take (length es - 1) (set es i (get_or es (length es - 1) d))
    ∙ ap (take (length es - 1)) (deadlines-put es i (get_or es (length es - 1) d) ∙ ap (set (deadlines es) i) (deadline_at es (length es - 1) d (omega arith)))
    ∙ ap (λ n. take (n - 1) (set (deadlines es) i (get_or (deadlines es) (n - 1) 0))) (sym (length-deadlines es))

-- ---- a write by place

-- the entry at a place, by its key and its value
entry_at : (es : List (Key × Listed)) (i : ℕ) (l : Listed) (d : Key) → slice_get (values_of es) i ≡ Some l → slice_get es i ≡ Some (get_or (keys_of es) i d, l)
entry_at [] i l d there = absurd (nothing there)
  where
    nothing : None ≡ Some l → ⊥
    nothing e = cc
entry_at (e ∷ es) zero l d there = ap (option_map (λ (x : Listed). (e.0, x))) there
entry_at (e ∷ es) (suc i) l d there = entry_at es i l d there

same_key : (k x : Key) → key_eq k x ≡ true → x ≡ k
same_key k x e = sym (keys_exact k x (equal_of_test (key_cmp k x) (sym (key_eq-ties k x) ∙ e)))

-- where a key was found, the entry has that key
entry_of : (k : Key) (es : List (Key × Listed)) (i : ℕ) (l : Listed) → position (key_eq k) (keys_of es) ≡ Some i → slice_get (values_of es) i ≡ Some l → slice_get es i ≡ Some (k, l)
entry_of k es i l found there =
    let at = position-Some (key_eq k) (keys_of es) i k found in
    entry_at es i l k there ∙ ap (λ (x : Key). Some (x, l)) (same_key k (get_or (keys_of es) i k) at.1)

pub key_equiv : IsEquivalence key_eq
key_equiv = subst (λ (e : Key → Key → Bool). IsEquivalence e) (sym key_eq-tie) (eq_by_cmp_equiv keys_total)

-- a write at the place of a key is a write at the key
pub written_at : {S : Type 0} (m : IndexMap Key Listed S) (k : Key) (i : ℕ) (l n : Listed) → IsUnique key_eq m → position (key_eq k) (keys_of m.entries) ≡ Some i → slice_get (values_of m.entries) i ≡ Some l
    → (q : Key) → lookup (key_eq q) (set_value_at m.entries i n) ≡ cond (key_eq k q) (Some n) (lookup (key_eq q) m.entries)
written_at m k i l n unique found there = (updates-with_value_at m i n key_equiv unique k l (entry_of k m.entries i l found there)).0

-- where an entry has a key, that key is found
pub stands_at : {S : Type 0} (m : IndexMap Key Listed S) (k x : Key) (i : ℕ) (l : Listed) → IsUnique key_eq m → slice_get m.entries i ≡ Some (x, l) → key_eq x k ≡ true
    → (position (key_eq k) (keys_of m.entries) ≡ Some i) × (lookup (key_eq k) m.entries ≡ Some l) × (slice_get (values_of m.entries) i ≡ Some l)
stands_at m k x i l unique at same =
    let there : slice_get m.entries i ≡ Some (k, l) = at ∙ ap (λ (y : Key). Some (y, l)) (sym (same_key x k same)) in (
      index-first (key_eq k) m.entries i (own_first key_eq key_equiv m.entries i k l unique there),
      lookup_from_place key_equiv m.entries i k l unique there,
      slice_get-map (λ e. e.1) m.entries i ∙ ap (option_map (λ (e : Key × Listed). e.1)) there,
    )

pub length-set_value_at : (es : List (Key × Listed)) (i : ℕ) (l : Listed) → length (set_value_at es i l) ≡ length es
length-set_value_at [] i l = refl
length-set_value_at (e ∷ es) zero l = refl
length-set_value_at (e ∷ es) (suc i) l = ap suc (length-set_value_at es i l)

-- what stands at a place where a key was found
pub taken_at : (k : Key) (es : List (Key × Listed)) (i : ℕ) (e : Key × Listed) (o : Option Listed) → position (key_eq k) (keys_of es) ≡ Some i → slice_get (values_of es) i ≡ o → Some e ≡ slice_get es i → (e.0 ≡ k) × (Some e.1 ≡ o)
taken_at k es i e o found there at =
    let value : slice_get (values_of es) i ≡ Some e.1 = slice_get-map (λ f. f.1) es i ∙ ap (option_map (λ (f : Key × Listed). f.1)) (sym at) in
    (same (at ∙ entry_of k es i e.1 found value), sym value ∙ there)
  where
    same : ◌≡◌ {A = Option (Key × Listed)} (Some e) (Some (k, e.1)) → e.0 ≡ k
    same h = cc

pub length-push : (es : List (Key × Listed)) (k : Key) (l : Listed) → length (es ++ (k, l) ∷ []) ≡ length es + 1
length-push [] k l = refl
length-push (e ∷ es) k l = omega (arith, length-push es k l)

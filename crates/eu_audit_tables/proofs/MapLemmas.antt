-- What the clauses of a sorted table say of the finite map that its entries make
use Rattle.std.proofs.Common.{◌≡◌, T, Bool, true, false, cond, ◌&&◌, List, [], ◌∷◌, length, refl, ap, sym, subst, ◌∙◌, None, Some, Result, Ok, Err, is_err, true≢false, OnOk}
use Rattle.std.specs.Map.{lookup, keys_of}
use Rattle.std.specs.BTreeMap.{is_at}
use Rattle.std.specs.List.{AllByRecursion}
use Rattle.std.specs.List.Sorted.{IsStrictlySortedBy}
use Rattle.std.specs.FinMap.{FinMap, IsAntisymmetric, from_entries, entries, entries_sorted, get, insert, remove, len, get-entries, get-from_entries, get-insert, get-remove, len-entries, same_map}
use Rattle.std.specs.FinMap.Entries.{find, is_sorted, below_all, same_entries}
use Rattle.std.specs.declared.cmp.Ordering.{Ordering}
use Rattle.std.specs.declared.cmp.Ordering.TheVariants.{Less}
use Rattle.std.specs.Ordering.{eq_by_cmp, is_eq, is_lt}
use Rattle.std.specs.Cmp.{IsTotalOrder, eq_by_cmp_equiv}
use Rattle.std.proofs.lemmas.Cmp.{tied_itself}
use Rattle.std.proofs.lemmas.Map.Keys.{sorted_head, sorted_tail}

pub at_ok : {X E : Type 0} {r : Result X E} {x : X} (P : Type 0) → OnOk r P → r ≡ Ok x → P
at_ok P h e = subst (λ s. OnOk s P) e h

pub at_no_err : {X E : Type 0} (r : Result X E) (P : Type 0) → OnOk r P → false ≡ is_err r → P
at_no_err (Ok x) P h e = h
at_no_err (Err x) P h e = absurd (true≢false (sym e))

both : (a b : Bool) → T a → T b → T (a && b)
both true b p q = q
both false b p q = p

module _ {K X : Type 0} (R : K → K → Ordering) where
  find-lookup : (es : List (K × X)) (q : K) → find R q es ≡ lookup (is_at (R q)) es
  find-lookup [] q = refl
  find-lookup (e ∷ es) q = ap (cond (eq_by_cmp R q e.0) (Some e.1)) (find-lookup es q)

  below_all-keys : (x : K) (es : List (K × X)) → AllByRecursion (λ y. R x y ≡ Less) (keys_of es) → T (below_all R x es)
  below_all-keys x [] h = tt
  below_all-keys x (e ∷ es) h = both _ _ (subst (λ r. T (is_lt r)) (sym h.0) tt) (below_all-keys x es h.1)

  is_sorted-keys : (es : List (K × X)) → IsStrictlySortedBy R (keys_of es) → T (is_sorted R es)
  is_sorted-keys [] h = tt
  is_sorted-keys (e ∷ es) h = both _ _ (below_all-keys e.0 es (sorted_head R e.0 (keys_of es) h)) (is_sorted-keys es (sorted_tail R e.0 (keys_of es) h))

module _ {K X : Type 0} {R : K → K → Ordering} (o : IsTotalOrder R) where
  -- what a table finds at a key is what the map has there
  pub get_at : (es : List (K × X)) (q : K) → get (from_entries {R = R} es) q ≡ lookup (is_at (R q)) es
  get_at es q = get-from_entries o es q ∙ find-lookup R es q

  module _ (same : IsAntisymmetric R) where
    -- entries in order are those of the map
    pub entries_in_order : (es : List (K × X)) → IsStrictlySortedBy R (keys_of es) → entries (from_entries {R = R} es) ≡ es
    entries_in_order es h =
        let m = from_entries {R = R} es in
        same_entries R o same (entries m) es (entries_sorted m) (is_sorted-keys R es h) (λ q. sym (get-entries m q) ∙ get-from_entries o es q)

    pub len_in_order : (es : List (K × X)) → IsStrictlySortedBy R (keys_of es) → len (from_entries {R = R} es) ≡ length es
    len_in_order es h = len-entries (from_entries {R = R} es) ∙ ap length (entries_in_order es h)

    -- a list of a table's entries, as an iterator has them, is that of the map
    pub shown : (m : FinMap R X) (es rest : List (K × X)) → from_entries es ≡ m → IsStrictlySortedBy R (keys_of es) → rest ≡ es → entries m ≡ rest
    shown m es rest is h all = sym (ap entries is) ∙ entries_in_order es h ∙ sym all

    -- entries that differ at one key make maps that differ there
    pub inserted : (es fs : List (K × X)) (k : K) (v : X) → ((q : K) → lookup (is_at (R q)) fs ≡ cond (is_at (R k) q) (Some v) (lookup (is_at (R q)) es))
        → from_entries {R = R} fs ≡ insert (from_entries es) k v
    inserted es fs k v h = same_map o same _ _ (λ q.
        get_at fs q ∙ h q
        ∙ (λ i. cond ((eq_by_cmp_equiv o).symm k q i) (Some v) (sym (get_at es q) i))
        ∙ sym (get-insert o (from_entries {R = R} es) k v q))

    pub removed : (es fs : List (K × X)) (k : K) → ((q : K) → lookup (is_at (R q)) fs ≡ cond (is_at (R k) q) None (lookup (is_at (R q)) es))
        → from_entries {R = R} fs ≡ remove (from_entries es) k
    removed es fs k h = same_map o same _ _ (λ q.
        get_at fs q ∙ h q
        ∙ (λ i. cond ((eq_by_cmp_equiv o).symm k q i) None (sym (get_at es q) i))
        ∙ sym (get-remove o (from_entries {R = R} es) k q))

    pub insert-remove : (m : FinMap R X) (k : K) (v : X) → insert (remove m k) k v ≡ insert m k v
    insert-remove m k v = same_map o same _ _ (λ q.
        get-insert o (remove m k) k v q
        ∙ ap (cond (eq_by_cmp R q k) (Some v)) (get-remove o m k q)
        ∙ elim (eq_by_cmp R q k) as (λ b. cond b (Some v) (cond b None (get m q)) ≡ cond b (Some v) (get m q)) [ true ↦ refl | false ↦ refl ]
        ∙ sym (get-insert o m k v q))

module _ {K X : Type 0} {R : K → K → Ordering} (o : IsTotalOrder R) where
  pub get_removed : (m : FinMap R X) (k : K) → get (remove m k) k ≡ None
  get_removed m k = get-remove o m k k ∙ ap (λ (r : Ordering). cond (is_eq r) None (get m k)) (tied_itself o k)

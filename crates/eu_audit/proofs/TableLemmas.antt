-- Tables that are read from lists
use Rattle.std.proofs.Common.{◌≡◌, T, Bool, true, false, ◌&&◌, List, [], ◌∷◌, ◌++◌, length, refl, sym, ap, ◌∙◌, subst, arith}
use Rattle.std.specs.declared.cmp.Ordering.{Ordering}
use Rattle.std.specs.declared.cmp.Ordering.TheVariants.{Less, Equal, Greater}
use Rattle.std.specs.Ordering.{is_lt}
use Rattle.std.specs.Cmp.{IsTotalOrder}
use Rattle.std.specs.FinMap.{FinMap, empty, insert, entries, entries_sorted, from_entries, same_entries_map, entries-insert, is_sorted, len-entries, len-empty}
use Rattle.std.specs.FinMap.Entries.{put, below_all, by_order}

both : (a b : Bool) → T (a && b) → T a × T b
both true b t = (tt, t)
both false b t = absurd t

less : (o : Ordering) → T (is_lt o) → o ≡ Less
less Less t = refl
less Equal t = absurd t
less Greater t = absurd t

nothing : {X : Type 0} (xs : List X) → length xs ≡ 0 → xs ≡ []
nothing [] e = refl
nothing (x ∷ xs) e = absurd (omega (arith, e))

-- an entry below all others comes first
first : {K X : Type 0} (R : K → K → Ordering) (k : K) (v : X) (es : List (K × X)) → T (below_all R k es) → put R k v es ≡ (k, v) ∷ es
first R k v [] t = refl
first R k v (e ∷ es) t = ap (λ o. by_order o ((k, v) ∷ e ∷ es) ((e.0, v) ∷ es) (e ∷ put R k v es)) (less (R k e.0) (both (is_lt (R k e.0)) (below_all R k es) t).0)

module _ {K X : Type 0} {R : K → K → Ordering} where
  -- the entries put into a map, the last of them first
  abbrev pub put_all : List (K × X) → FinMap R X → FinMap R X
  put_all [] m = m
  put_all (e ∷ es) m = insert (put_all es m) e.0 e.1

  pub from_all : (es : List (K × X)) → put_all es empty ≡ from_entries es
  from_all [] = refl
  from_all (e ∷ es) = ap (λ m. insert m e.0 e.1) (from_all es)

  pub put_last : (es : List (K × X)) (e : K × X) (m : FinMap R X) → put_all (es ++ e ∷ []) m ≡ put_all es (insert m e.0 e.1)
  put_last [] e m = refl
  put_last (d ∷ es) e m = ap (λ n. insert n d.0 d.1) (put_last es e m)

  -- ---- what is in order

  in_order : IsTotalOrder R → (es : List (K × X)) → T (is_sorted R es) → entries (from_entries {R = R} es) ≡ es
  in_order o [] t = nothing (entries (empty {K = K} {X = X} {R = R})) (sym (len-entries (empty {K = K} {X = X} {R = R})) ∙ len-empty R X)
  in_order o (e ∷ es) t =
      let two = both (below_all R e.0 es) (is_sorted R es) t in
      entries-insert o (from_entries es) e.0 e.1 ∙ ap (put R e.0 e.1) (in_order o es two.1) ∙ first R e.0 e.1 es two.0

  -- the map that has these entries is theirs, and they are in order
  pub of_entries : IsTotalOrder R → (m : FinMap R X) (es : List (K × X)) → entries m ≡ es → (is_sorted R es ≡ true) × (m ≡ from_entries es)
  of_entries o m es is =
      let sorted = subst (λ xs. T (is_sorted R xs)) is (entries_sorted m) in
      (true_of (is_sorted R es) sorted, same_entries_map m (from_entries es) (is ∙ sym (in_order o es sorted)))
    where
      true_of : (b : Bool) → T b → b ≡ true
      true_of true t = refl
      true_of false t = absurd t

  -- and the map of entries that are in order has just these
  pub to_entries : IsTotalOrder R → (es : List (K × X)) → is_sorted R es ≡ true → entries (from_entries {R = R} es) ≡ es
  to_entries o es is = in_order o es (subst T (sym is) tt)

  -- and entries that aren't are those of no map
  pub not_ordered : IsTotalOrder R → (m : FinMap R X) (es : List (K × X)) → m ≡ from_entries es → (entries m ≡ es → ⊥) → is_sorted R es ≡ false
  not_ordered o m es is other = by (is_sorted R es) refl
    where
      by : (b : Bool) → is_sorted R es ≡ b → b ≡ false
      by true sorted = absurd (other (ap entries is ∙ to_entries o es sorted))
      by false sorted = refl

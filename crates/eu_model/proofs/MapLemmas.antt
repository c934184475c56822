-- What a map answers after each value is changed
use Rattle.std.proofs.Common.{◌≡◌, Bool, true, false, List, [], ◌∷◌, refl, sym, ap, ◌∙◌, T, subst, length, map}
use Rattle.std.specs.Prelude.{cond, Option, Some, None, ◌&&◌}
use Rattle.std.specs.Option.{option_map}
use Rattle.std.specs.declared.cmp.Ordering.{Ordering}
use Rattle.std.specs.Ordering.{eq_by_cmp, is_lt}
use Rattle.std.specs.Cmp.{IsTotalOrder}
use Rattle.std.proofs.lemmas.List.{length-map}
use Rattle.std.specs.FinMap.{FinMap, IsAntisymmetric, find, is_sorted, empty, entries, entries_sorted, get, insert, remove, len, get-empty, entries-from_sorted, get-entries, len-entries, get-insert, get-remove, same_map}
use Rattle.std.specs.FinMap.Entries.{below_all}
use Rattle.eu_model.specs.Machine.{map_values, with_value}

module _ {K X Y : Type 0} (R : K → K → Ordering) (f : X → Y) where
  below_all-map : (x : K) (es : List (K × X)) → below_all R x (map (λ e. (e.0, f e.1)) es) ≡ below_all R x es
  below_all-map x [] = refl
  below_all-map x (e ∷ es) = ap (λ b. is_lt (R x e.0) && b) (below_all-map x es)

  is_sorted-map : (es : List (K × X)) → is_sorted R (map (λ e. (e.0, f e.1)) es) ≡ is_sorted R es
  is_sorted-map [] = refl
  is_sorted-map (e ∷ es) = ap (λ b. b && is_sorted R (map (λ e. (e.0, f e.1)) es)) (below_all-map e.0 es) ∙ ap (λ b. below_all R e.0 es && b) (is_sorted-map es)

  find-map : (es : List (K × X)) (q : K) → find R q (map (λ e. (e.0, f e.1)) es) ≡ option_map f (find R q es)
  find-map [] q = refl
  find-map (e ∷ es) q =
      elim (eq_by_cmp R q e.0) as (λ b. cond b (Some (f e.1)) (find R q (map (λ e. (e.0, f e.1)) es)) ≡ option_map f (cond b (Some e.1) (find R q es))) [ true ↦ refl | false ↦ find-map es q ]

  pub entries-map_values : (m : FinMap R X) → entries (map_values f m) ≡ map (λ e. (e.0, f e.1)) (entries m)
  unfolding map_values
  entries-map_values m = entries-from_sorted R (map (λ e. (e.0, f e.1)) (entries m)) (subst T (sym (is_sorted-map (entries m))) (entries_sorted m))

  pub get-map_values : (m : FinMap R X) (q : K) → get (map_values f m) q ≡ option_map f (get m q)
  get-map_values m q =
      get-entries (map_values f m) q ∙ ap (find R q) (entries-map_values m) ∙ find-map (entries m) q ∙ ap (option_map f) (sym (get-entries m q))

  pub len-map_values : (m : FinMap R X) → len (map_values f m) ≡ len m
  len-map_values m =
      len-entries (map_values f m) ∙ ap length (entries-map_values m) ∙ length-map (entries m) (λ e. (e.0, f e.1)) ∙ sym (len-entries m)

option_map-cond : {X Y : Type 0} (f : X → Y) (b : Bool) (x y : Option X) → option_map f (cond b x y) ≡ cond b (option_map f x) (option_map f y)
option_map-cond f true x y = refl
option_map-cond f false x y = refl

module _ {K X Y : Type 0} {R : K → K → Ordering} (o : IsTotalOrder R) (same : IsAntisymmetric R) (f : X → Y) where
  pub map_values-empty : map_values f (empty {X = X} {R = R}) ≡ empty
  map_values-empty = same_map o same _ _ (λ q. get-map_values R f empty q ∙ ap (option_map f) (get-empty R q) ∙ sym (get-empty R q))

  pub map_values-insert : (m : FinMap R X) (k : K) (v : X) → map_values f (insert m k v) ≡ insert (map_values f m) k (f v)
  map_values-insert m k v = same_map o same _ _ (λ q.
      get-map_values R f (insert m k v) q
      ∙ ap (option_map f) (get-insert o m k v q)
      ∙ option_map-cond f (eq_by_cmp R q k) (Some v) (get m q)
      ∙ ap (cond (eq_by_cmp R q k) (Some (f v))) (sym (get-map_values R f m q))
      ∙ sym (get-insert o (map_values f m) k (f v) q))

  pub map_values-remove : (m : FinMap R X) (k : K) → map_values f (remove m k) ≡ remove (map_values f m) k
  map_values-remove m k = same_map o same _ _ (λ q.
      get-map_values R f (remove m k) q
      ∙ ap (option_map f) (get-remove o m k q)
      ∙ option_map-cond f (eq_by_cmp R q k) None (get m q)
      ∙ ap (cond (eq_by_cmp R q k) None) (sym (get-map_values R f m q))
      ∙ sym (get-remove o (map_values f m) k q))

  pub map_values-with_value : (m : FinMap R X) (k : K) (v : Option X) → map_values f (with_value m k v) ≡ with_value (map_values f m) k (option_map f v)
  map_values-with_value m k None = map_values-remove m k
  map_values-with_value m k (Some v) = map_values-insert m k v

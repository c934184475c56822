-- What the clauses of a table say of the finite map that its entries make
use Rattle.std.proofs.Common.{◌≡◌, ◌+◌, Bool, true, false, cond, List, [], ◌∷◌, length, refl, ap, sym, ◌∙◌, Option, None, Some, is_some, arith}
use Rattle.std.specs.Option.{option_map_or}
use Rattle.std.specs.Map.{lookup, keys_of}
use Rattle.std.specs.List.{IsDistinct, AllByRecursion}
use Rattle.std.specs.FinMap.{FinMap, from_entries, get, insert, remove, len, IsAntisymmetric, get-from_entries, get-insert, get-remove, len-insert, len-empty, same_map}
use Rattle.std.specs.FinMap.Entries.{find}
use Rattle.std.specs.declared.cmp.Ordering.{Ordering}
use Rattle.std.specs.Ordering.{eq_by_cmp, is_eq}
use Rattle.std.specs.Cmp.{IsTotalOrder, eq_by_cmp_equiv}
use Rattle.std.proofs.lemmas.Cmp.{tied_itself}
use Rattle.std.proofs.lemmas.Map.Keys.{IsDistinct-head, IsDistinct-tail}
use Rattle.eu_base.specs.Values.{name_cmp, key_cmp, name_eq, key_eq}
use Rattle.eu_base.proofs.KeyLemmas.{equal_of_test, names_total, names_exact, name_eq-ties, keys_total, keys_exact, key_eq-ties}

-- a total order that tells its keys apart, and the equality that is its tie
pub record IsKeyed {K : Type 0} (R : K → K → Ordering) (eq : K → K → Bool) : Type 0 where
  pub total : IsTotalOrder R
  pub exact : IsAntisymmetric R
  pub ties : (a b : K) → eq a b ≡ eq_by_cmp R a b

pub by_key : IsKeyed key_cmp key_eq
by_key = record { total = keys_total; exact = keys_exact; ties = key_eq-ties }

pub by_name : IsKeyed name_cmp name_eq
by_name = record { total = names_total; exact = names_exact; ties = name_eq-ties }

abbrev pub map_of : {K X : Type 0} {R : K → K → Ordering} → List (K × X) → FinMap R X
map_of es = from_entries es

module _ {K : Type 0} {R : K → K → Ordering} {eq : K → K → Bool} (w : IsKeyed R eq) where
  flipped : (k q : K) → eq k q ≡ eq_by_cmp R q k
  flipped k q = w.ties k q ∙ (eq_by_cmp_equiv w.total).symm k q

  same_of_test : (a b : K) → eq_by_cmp R a b ≡ true → a ≡ b
  same_of_test a b h = w.exact a b (equal_of_test (R a b) h)

module _ {K X : Type 0} {R : K → K → Ordering} {eq : K → K → Bool} (w : IsKeyed R eq) where
  find-lookup : (es : List (K × X)) (q : K) → find R q es ≡ lookup (eq q) es
  find-lookup [] q = refl
  find-lookup (e ∷ es) q = λ i. cond (sym (w.ties q e.0) i) (Some e.1) (find-lookup es q i)

  pub get_at : (es : List (K × X)) (q : K) → get (map_of {R = R} es) q ≡ lookup (eq q) es
  get_at es q = get-from_entries w.total es q ∙ find-lookup es q

  -- entries that differ at one key make maps that differ there
  pub inserted : (es fs : List (K × X)) (k : K) (v : X) → ((q : K) → lookup (eq q) fs ≡ cond (eq k q) (Some v) (lookup (eq q) es)) → map_of {R = R} fs ≡ insert (map_of {R = R} es) k v
  inserted es fs k v h = same_map w.total w.exact _ _ (λ q.
      get_at fs q ∙ h q ∙ ap (λ b. cond b (Some v) (lookup (eq q) es)) (flipped w k q)
      ∙ sym (get-insert w.total (map_of {R = R} es) k v q ∙ ap (cond (eq_by_cmp R q k) (Some v)) (get_at es q)))

  pub removed : (es fs : List (K × X)) (k : K) → ((q : K) → lookup (eq q) fs ≡ cond (eq k q) None (lookup (eq q) es)) → map_of {R = R} fs ≡ remove (map_of {R = R} es) k
  removed es fs k h = same_map w.total w.exact _ _ (λ q.
      get_at fs q ∙ h q ∙ ap (λ b. cond b None (lookup (eq q) es)) (flipped w k q)
      ∙ sym (get-remove w.total (map_of {R = R} es) k q ∙ ap (cond (eq_by_cmp R q k) None) (get_at es q)))

  pub absent : (k : K) (es : List (K × X)) → AllByRecursion (λ y. eq k y ≡ false) (keys_of es) → lookup (eq k) es ≡ None
  absent k [] h = refl
  absent k (e ∷ es) h = ap (λ b. cond b (Some e.1) (lookup (eq k) es)) h.0 ∙ absent k es h.1

  pub len_at : (es : List (K × X)) → IsDistinct eq (keys_of es) → len (map_of {R = R} es) ≡ length es
  len_at [] d = len-empty R X
  len_at (e ∷ es) d =
      let none = ap is_some (get_at es e.0 ∙ absent e.0 es (IsDistinct-head eq e.0 (keys_of es) d)) in
      let rest = len_at es (IsDistinct-tail eq e.0 (keys_of es) d) in
      len-insert w.total (map_of {R = R} es) e.0 e.1 ∙ ap (λ b. cond b (len (map_of {R = R} es)) (len (map_of {R = R} es) + 1)) none ∙ omega (arith, rest)

  pub changed-found : (f : X → X) (m : FinMap R X) (k : K) (h : X) → get m k ≡ Some h → option_map_or (λ x. insert m k (f x)) (get m k) m ≡ insert m k (f h)
  changed-found f m k h e = ap (λ o. option_map_or (λ x. insert m k (f x)) o m) e

  pub changed-absent : (f : X → X) (m : FinMap R X) (k : K) → get m k ≡ None → option_map_or (λ x. insert m k (f x)) (get m k) m ≡ m
  changed-absent f m k e = ap (λ o. option_map_or (λ x. insert m k (f x)) o m) e

  -- what the table finds at a key is what the map has there
  pub get_in : (es : List (K × X)) (m : FinMap R X) (k : K) (o : Option X) → map_of {R = R} es ≡ m → o ≡ lookup (eq k) es → get m k ≡ o
  get_in es m k o is found = ap (λ n. get n k) (sym is) ∙ get_at es k ∙ sym found

  -- a write through the value at a key
  pub changed_in : (f : X → X) (es fs : List (K × X)) (m : FinMap R X) (k : K) (h v : X) → map_of {R = R} es ≡ m → Some h ≡ lookup (eq k) es
      → ((q : K) → lookup (eq q) fs ≡ cond (eq k q) (Some v) (lookup (eq q) es)) → v ≡ f h
      → map_of {R = R} fs ≡ option_map_or (λ x. insert m k (f x)) (get m k) m
  changed_in f es fs m k h v is found updates now =
      inserted es fs k v updates ∙ (λ i. insert (is i) k (now i)) ∙ sym (changed-found f m k h (get_in es m k (Some h) is found))

  pub unchanged_in : (f : X → X) (es fs : List (K × X)) (m : FinMap R X) (k : K) → map_of {R = R} es ≡ m → None ≡ lookup (eq k) es → fs ≡ es
      → map_of {R = R} fs ≡ option_map_or (λ x. insert m k (f x)) (get m k) m
  unchanged_in f es fs m k is found same = ap (map_of {R = R}) same ∙ is ∙ sym (changed-absent f m k (get_in es m k None is found))

  pub len_in : (es : List (K × X)) (m : FinMap R X) → map_of {R = R} es ≡ m → IsDistinct eq (keys_of es) → len m ≡ length es
  len_in es m is d = ap len (sym is) ∙ len_at es d

-- ---- what a step leaves that changes nothing, or that writes twice

module _ {K X : Type 0} {R : K → K → Ordering} {eq : K → K → Bool} (w : IsKeyed R eq) where
  pub remove_absent : (m : FinMap R X) (k : K) → get m k ≡ None → remove m k ≡ m
  remove_absent m k none = same_map w.total w.exact _ _ (λ q.
      get-remove w.total m k q
      ∙ elim (eq_by_cmp R q k) as (λ b. eq_by_cmp R q k ≡ b → cond b None (get m q) ≡ get m q) [
        | true ↦ λ t. sym (ap (get m) (same_of_test w q k t) ∙ none)
        | false ↦ λ t. refl
      ] refl)

  pub insert_same : (m : FinMap R X) (k : K) (x : X) → get m k ≡ Some x → insert m k x ≡ m
  insert_same m k x is = same_map w.total w.exact _ _ (λ q.
      get-insert w.total m k x q
      ∙ elim (eq_by_cmp R q k) as (λ b. eq_by_cmp R q k ≡ b → cond b (Some x) (get m q) ≡ get m q) [
        | true ↦ λ t. sym (ap (get m) (same_of_test w q k t) ∙ is)
        | false ↦ λ t. refl
      ] refl)

  pub get_inserted : (m : FinMap R X) (k : K) (x : X) → get (insert m k x) k ≡ Some x
  get_inserted m k x = get-insert w.total m k x k ∙ ap (λ (r : Ordering). cond (is_eq r) (Some x) (get m k)) (tied_itself w.total k)

-- The places of a table's entries in the order of their keys, after each step
use Rattle.std.proofs.Common.{◌≡◌, ℕ, zero, suc, ◌+◌, ◌-◌, ◌<◌, ◌≤◌, ◌⊎◌, inl, inr, Bool, true, false, cond, not, ◌&&◌, ◌||◌, List, [], ◌∷◌, ◌++◌, map, filter, length, get_or, set, take, drop, slice_get, refl, sym, ap, subst, ◌∙◌, Option, None, Some, is_some, arith, true≢false, Ordering, Less, Equal, Greater}
use Rattle.std.specs.Option.{option_map, option_map_or}
use Rattle.std.specs.Ordering.{is_eq, is_lt, is_le, eq_by_cmp, ordering_reverse, ordering_then}
use Rattle.std.specs.Map.{keys_of, values_of, lookup}
use Rattle.std.specs.List.{insert as put_in, remove as take_out, swap_remove, prefix_len, list_any, IsDistinct}
use Rattle.std.specs.List.Sorted.{IsStrictlySortedBy, IsPartitionedBy}
use Rattle.std.specs.FinMap.{FinMap, insert, remove, get, entries, keys, entries-insert, entries_sorted, get-entries, contains_key-keys}
use Rattle.std.specs.FinMap.Entries.{by_order, put, find, where_key, is_sorted-where_key, find-where_key}
use Rattle.std.specs.Cmp.{eq_by_cmp_equiv}
use Rattle.std.proofs.lemmas.Bool.{cases_lt}
use Rattle.std.proofs.lemmas.List.Elements.{filter_agree}
use Rattle.std.proofs.lemmas.Cmp.{tied_itself}
use Rattle.std.proofs.lemmas.List.{length-map, length-set, get_or-set_same, get_or-set_other}
use Rattle.std.proofs.lemmas.List.Sums.{prefix_len_is, prefix_len-le-length}
use Rattle.std.proofs.lemmas.Map.Keys.{Less-from_sorted, apart_from_distinct, IsDistinct-from_sorted}
use Rattle.std.proofs.lemmas.Map.Entries.{lookup_from_place}
use Rattle.std.proofs.lemmas.Option.{slice_get-map, slice_get_within, get_or_from_slice_get}
use Rattle.eu_base.specs.declared.names.Key.{Key}
use Rattle.eu_base.specs.Values.{name_cmp, key_cmp, key_eq}
use Rattle.eu_base.proofs.KeyLemmas.{equal_of_test, names_total, names_exact, name_eq-ties, keys_total, keys_exact, key_eq-Decides}
use Rattle.eu_model.specs.View.{is_of}
use Rattle.eu_model.specs.declared.views.Listed.{Listed}
use Rattle.eu_store.specs.Order.{at_places, at_place, is_below, is_before, is_through, keys_held, IsInOrder}
use Rattle.eu_store.specs.Brief.{IsBrief, IsShort}
use Rattle.eu_store.specs.Stored.{rows_of, listing_of}
use Rattle.eu_store.proofs.TableLemmas.{by_key, map_of, get_at, insert_same}
use Rattle.eu_model.proofs.ListingLemmas.{filter_true}
use Rattle.eu_store.proofs.CountLemmas.{entries_none, get_removed, insert_removed}
use Rattle.eu_store.proofs.FoundLemmas.{any_place, entry_there}
use Rattle.eu_store.proofs.IndexLemmas.{key_equiv}
use Rattle.eu_store.proofs.MapLemmas.{nobody}
use Rattle.eu_store.proofs.PlaceLemmas.{map_swapped, same_some, at_get, at_from, at_length, segment, at_part, at_removed, at_inserted, swapped_same, swapped_other}
use Rattle.eu_store.proofs.RowLemmas.{find_is_lookup}
use Rattle.eu_store.proofs.SortedLemmas.{sorted_keys}

abbrev pub Entries : Type 0
Entries = List (Key × Listed)

abbrev pub held : Entries → FinMap key_cmp Listed
held es = map_of es

rising : (es : Entries) → IsStrictlySortedBy key_cmp (keys_held es)
rising es = sorted_keys key_cmp (entries (held es)) (entries_sorted (held es))

less_of_test : (r : Ordering) → is_lt r ≡ true → r ≡ Less
less_of_test Less h = refl
less_of_test Equal h = cc
less_of_test Greater h = cc

-- ---- a search

-- a test that holds below where it holds, holds of the first ones alone
pub holds_first : (q : Key → Bool) → ((x y : Key) → key_cmp x y ≡ Less → q y ≡ true → q x ≡ true) → (es : Entries) → IsPartitionedBy q (keys_held es)
holds_first q down es i j d le low holds = by (cases_lt i j)
  where
    by : (i < j) ⊎ (j ≤ i) → q (get_or (keys_held es) i d) ≡ true
    by (inl under) = down (get_or (keys_held es) i d) (get_or (keys_held es) j d) (Less-from_sorted key_cmp (keys_held es) i j d (rising es) under low) holds
    by (inr over) = let same : i ≡ j = omega (arith, le, over) in ap (λ n. q (get_or (keys_held es) n d)) same ∙ holds

at_test : (q : Key → Bool) (es : Entries) (ps : List ℕ) (i d : ℕ) → IsInOrder es ps → i < length (keys_held es) → at_place q es (get_or ps i d) ≡ q (get_or (keys_held es) i nobody)
at_test q es ps i d order low = ap (λ o. option_map_or q o false) (at_get (keys_of es) ps (keys_held es) i d nobody order low)

pub parted : (q : Key → Bool) (es : Entries) (ps : List ℕ) → IsInOrder es ps → IsPartitionedBy q (keys_held es) → IsPartitionedBy (at_place q es) ps
parted q es ps order first i j d le low holds =
    let long : length ps ≡ length (keys_held es) = at_length (keys_of es) ps (keys_held es) order in
    at_test q es ps i d order (omega (arith, le, low, long)) ∙ first i j nobody le (omega (arith, low, long)) (sym (at_test q es ps j d order (omega (arith, low, long))) ∙ holds)

pub below_holds_first : (k : Key) (es : Entries) → IsPartitionedBy (is_below k) (keys_held es)
below_holds_first k es = holds_first (is_below k) (λ x y up holds. ap is_lt (keys_total.trans x y k up (less_of_test (key_cmp y k) holds))) es

-- a key that is among keys in order is the first that isn't below it
found_at : (k : Key) (gs : List Key) → IsStrictlySortedBy key_cmp gs → list_any (eq_by_cmp key_cmp k) gs ≡ true → (prefix_len (is_below k) gs < length gs) × (get_or gs (prefix_len (is_below k) gs) k ≡ k)
found_at k gs up some =
    let a = any_place (eq_by_cmp key_cmp k) k gs some in
    let is : k ≡ get_or gs a.0 k = keys_exact k (get_or gs a.0 k) (equal_of_test (key_cmp k (get_or gs a.0 k)) a.2) in
    let at : prefix_len (is_below k) gs ≡ a.0 = prefix_len_is (is_below k) gs a.0 k (omega (arith, a.1))
    (λ j low. ap is_lt (ap (key_cmp (get_or gs j k)) is ∙ Less-from_sorted key_cmp gs j a.0 k up low a.1))
    (λ low. ap (λ x. is_lt (key_cmp x k)) (sym is) ∙ ap is_lt (tied_itself keys_total k)) in
    (omega (arith, at, a.1), ap (λ n. get_or gs n k) at ∙ sym is)

-- keys in order that are equal stand at one place
one_spot : (gs : List Key) (a b : ℕ) (d : Key) → IsStrictlySortedBy key_cmp gs → a < length gs → b < length gs → get_or gs a d ≡ get_or gs b d → a ≡ b
one_spot gs a b d up low high same = by (cases_lt a b) (cases_lt b a)
  where
    never : (x : Key) → key_cmp x x ≡ Less → ⊥
    never x h = true≢false (sym (ap is_lt h) ∙ ap is_lt (tied_itself keys_total x))

    by : (a < b) ⊎ (b ≤ a) → (b < a) ⊎ (a ≤ b) → a ≡ b
    by (inl under) _ = absurd (never (get_or gs b d) (ap (λ x. key_cmp x (get_or gs b d)) (sym same) ∙ Less-from_sorted key_cmp gs a b d up under high))
    by (inr _) (inl over) = absurd (never (get_or gs b d) (ap (key_cmp (get_or gs b d)) (sym same) ∙ Less-from_sorted key_cmp gs b a d up over low))
    by (inr x) (inr y) = omega (arith, x, y)

-- keys that differ stand at one place each
pub one_place : (ks : List Key) (a b : ℕ) (x : Key) → IsDistinct key_eq ks → slice_get ks a ≡ Some x → slice_get ks b ≡ Some x → a ≡ b
one_place ks a b x apart at_a at_b = by (cases_lt a b) (cases_lt b a)
  where
    never : (i j : ℕ) → i < j → slice_get ks i ≡ Some x → slice_get ks j ≡ Some x → ⊥
    never i j under at_i at_j =
        let differ = apart_from_distinct key_eq ks i j x apart under (slice_get_within ks j x at_j) in
        let same : key_eq x x ≡ true = (key_eq-Decides x x).1 refl in
        true≢false (sym same ∙ (λ n. key_eq (sym (get_or_from_slice_get ks i x x at_i) n) (sym (get_or_from_slice_get ks j x x at_j) n)) ∙ differ)

    by : (a < b) ⊎ (b ≤ a) → (b < a) ⊎ (a ≤ b) → a ≡ b
    by (inl under) _ = absurd (never a b under at_a at_b)
    by (inr _) (inl over) = absurd (never b a over at_b at_a)
    by (inr p) (inr q) = omega (arith, p, q)

-- a place of the table is found by its key
pub stands : (es : Entries) (ps : List ℕ) (p : ℕ) (k : Key) (v : Listed) → IsDistinct key_eq (keys_of es) → IsInOrder es ps → slice_get es p ≡ Some (k, v)
    → (prefix_len (is_below k) (keys_held es) < length ps) × (get_or ps (prefix_len (is_below k) (keys_held es)) 0 ≡ p)
stands es ps p k v apart order there =
    let gs = keys_held es in
    let i = prefix_len (is_below k) gs in
    let long : length ps ≡ length gs = at_length (keys_of es) ps gs order in
    let some = sym (contains_key-keys (held es) k) ∙ ap is_some (get_at by_key es k ∙ lookup_from_place key_equiv es p k v apart there) in
    let found = found_at k gs (rising es) some in
    let here = at_get (keys_of es) ps gs i 0 k order found.0 ∙ ap (λ (x : Key). Some x) found.1 in
    let key = slice_get-map (λ e. e.0) es p ∙ ap (option_map (λ (e : Key × Listed). e.0)) there in
    (omega (arith, long, found.0), one_place (keys_of es) (get_or ps i 0) p k apart here key)

-- ---- the keys of a map after a step

abbrev put_key : Key → List Key → List Key
put_key k [] = k ∷ []
put_key k (g ∷ gs) = by_order (key_cmp k g) (k ∷ g ∷ gs) (g ∷ gs) (g ∷ put_key k gs)

abbrev in_order : List Key → List Key
in_order [] = []
in_order (k ∷ ks) = put_key k (in_order ks)

keys_put : (k : Key) (l : Listed) (es : Entries) → keys_of (put key_cmp k l es) ≡ put_key k (keys_of es)
keys_put k l [] = refl
keys_put k l (e ∷ es) = by (keys_put k l es) (key_cmp k e.0)
  where
    by : keys_of (put key_cmp k l es) ≡ put_key k (keys_of es) → (r : Ordering) → keys_of (by_order r ((k, l) ∷ e ∷ es) ((e.0, l) ∷ es) (e ∷ put key_cmp k l es)) ≡ by_order r (k ∷ e.0 ∷ keys_of es) (e.0 ∷ keys_of es) (e.0 ∷ put_key k (keys_of es))
    by rest Less = refl
    by rest Equal = refl
    by rest Greater = ap (λ ks. e.0 ∷ ks) rest

keys_inserted : (m : FinMap key_cmp Listed) (k : Key) (l : Listed) → keys (insert m k l) ≡ put_key k (keys m)
keys_inserted m k l = ap (λ es. keys_of es) (entries-insert keys_total m k l) ∙ keys_put k l (entries m)

keys_in_order : (es : Entries) → keys_held es ≡ in_order (keys_of es)
keys_in_order [] = ap (map (λ e. e.0)) entries_none
keys_in_order (e ∷ es) = keys_inserted (held es) e.0 e.1 ∙ ap (put_key e.0) (keys_in_order es)

-- a new key is put before the first that isn't below it
put_at : (k : Key) (gs : List Key) → list_any (eq_by_cmp key_cmp k) gs ≡ false → put_key k gs ≡ put_in gs (prefix_len (is_below k) gs) k
put_at k [] none = refl
put_at k (g ∷ gs) none = by (key_cmp k g) refl none (put_at k gs)
  where
    turned : (r : Ordering) → key_cmp k g ≡ r → is_below k g ≡ is_lt (ordering_reverse r)
    turned r is = ap is_lt (keys_total.antisymm g k ∙ ap ordering_reverse is)

    by : (r : Ordering) → key_cmp k g ≡ r → (is_eq (key_cmp k g) || list_any (eq_by_cmp key_cmp k) gs) ≡ false → (list_any (eq_by_cmp key_cmp k) gs ≡ false → put_key k gs ≡ put_in gs (prefix_len (is_below k) gs) k)
        → by_order r (k ∷ g ∷ gs) (g ∷ gs) (g ∷ put_key k gs) ≡ put_in (g ∷ gs) (cond (is_below k g) (1 + prefix_len (is_below k) gs) 0) k
    by Less is none rest = ap (λ b. put_in (g ∷ gs) (cond b (1 + prefix_len (is_below k) gs) 0) k) (sym (turned Less is))
    by Equal is none rest = absurd (true≢false (ap (λ r. is_eq r || list_any (eq_by_cmp key_cmp k) gs) (sym is) ∙ none))
    by Greater is none rest =
        ap (λ ks. g ∷ ks) (rest (ap (λ r. is_eq r || list_any (eq_by_cmp key_cmp k) gs) (sym is) ∙ none)) ∙ ap (λ j. put_in (g ∷ gs) j k) one_more
        ∙ ap (λ b. put_in (g ∷ gs) (cond b (1 + prefix_len (is_below k) gs) 0) k) (sym (turned Greater is))
      where
        one_more : suc (prefix_len (is_below k) gs) ≡ 1 + prefix_len (is_below k) gs
        one_more = omega arith

keys_put_in : (m : FinMap key_cmp Listed) (k : Key) (v : Listed) → get m k ≡ None → keys (insert m k v) ≡ put_in (keys m) (prefix_len (is_below k) (keys m)) k
keys_put_in m k v none = keys_inserted m k v ∙ put_at k (keys m) (sym (contains_key-keys m k) ∙ ap is_some none)

put_there : (gs : List Key) (i : ℕ) (k d : Key) → i ≤ length gs → (get_or (put_in gs i k) i d ≡ k) × (take_out (put_in gs i k) i ≡ gs)
put_there gs zero k d low = (refl, refl)
put_there [] (suc i) k d low = absurd (omega (arith, low))
put_there (g ∷ gs) (suc i) k d low = let rest = put_there gs i k d (omega (arith, low)) in (rest.0, ap (λ ks. g ∷ ks) rest.1)

-- a key that goes is taken from where it stands
keys_taken_out : (m : FinMap key_cmp Listed) (k : Key) (l : Listed) (i : ℕ) → get m k ≡ Some l → i < length (keys m) → get_or (keys m) i k ≡ k → keys (remove m k) ≡ take_out (keys m) i
keys_taken_out m k l i there low at =
    let hs = keys (remove m k) in
    let j = prefix_len (is_below k) hs in
    let whole : keys m ≡ put_in hs j k = ap keys (sym (insert_same by_key m k l there) ∙ sym (insert_removed m k l)) ∙ keys_put_in (remove m k) k l (get_removed m k) in
    let back = put_there hs j k k (prefix_len-le-length (is_below k) hs) in
    let here : get_or (keys m) j k ≡ k = ap (λ ks. get_or ks j k) whole ∙ back.0 in
    let low_j : j < length (keys m) = subst (λ n. j < n) (ap length (sym whole)) (inside hs j (prefix_len-le-length (is_below k) hs)) in
    let same : j ≡ i = one_spot (keys m) j i k (sorted_keys key_cmp (entries m) (entries_sorted m)) low_j low (here ∙ sym at) in
    sym (ap (take_out (keys m)) (sym same) ∙ ap (λ ks. take_out ks j) whole ∙ back.1)
  where
    inside : (hs : List Key) (j : ℕ) → j ≤ length hs → j < length (put_in hs j k)
    inside hs zero h = omega arith
    inside [] (suc j) h = absurd (omega (arith, h))
    inside (g ∷ hs) (suc j) h = let rest = inside hs j (omega (arith, h)) in omega (arith, rest)

-- ---- each step

keys_push : (es : Entries) (k : Key) (v : Listed) → keys_of (es ++ (k, v) ∷ []) ≡ keys_of es ++ k ∷ []
keys_push [] k v = refl
keys_push (e ∷ es) k v = ap (λ ks. e.0 ∷ ks) (keys_push es k v)

pub order_inserted : (es fs : Entries) (ps : List ℕ) (k : Key) (v : Listed) → IsInOrder es ps → get (held es) k ≡ None → fs ≡ es ++ (k, v) ∷ [] → held fs ≡ insert (held es) k v
    → IsInOrder fs (put_in ps (prefix_len (is_below k) (keys_held es)) (length es))
order_inserted es fs ps k v order none made is =
    let i = prefix_len (is_below k) (keys_held es) in
    ap (λ ks. at_places ks (put_in ps i (length es))) (ap keys_of made ∙ keys_push es k v)
    ∙ ap (λ n. at_places (keys_of es ++ k ∷ []) (put_in ps i n)) (sym (length-map es (λ e. e.0)))
    ∙ at_inserted (keys_of es) ps (keys_held es) i k order
    ∙ ap (map (λ (x : Key). Some x)) (sym (ap keys is ∙ keys_put_in (held es) k v none))

-- a step that keeps the keys
pub order_kept : (es fs : Entries) (ps : List ℕ) → IsInOrder es ps → keys_of fs ≡ keys_of es → IsInOrder fs ps
order_kept es fs ps order same =
    ap (λ ks. at_places ks ps) same ∙ order ∙ ap (map (λ (x : Key). Some x)) (keys_in_order es ∙ ap in_order (sym same) ∙ sym (keys_in_order fs))

-- a place stands once
pub once_in_order : (es : Entries) (ps : List ℕ) → IsInOrder es ps → (a b : ℕ) → a < length (keys_held es) → b < length (keys_held es) → get_or ps a 0 ≡ get_or ps b 0 → a ≡ b
once_in_order es ps order a b low high same =
    let ks = keys_of es in
    let gs = keys_held es in
    one_spot gs a b nobody (rising es) low high (same_some _ _ (sym (at_get ks ps gs a 0 nobody order low) ∙ ap (slice_get ks) same ∙ at_get ks ps gs b 0 nobody order high))

-- the places that are left, where the one of the last is that of the one which went
module _ (es : Entries) (ps : List ℕ) (p at moved : ℕ) (d : Key × Listed) (order : IsInOrder es ps) (within : p < length es) (at_low : at < length ps) (at_is : get_or ps at 0 ≡ p)
    (moved_low : moved < length ps) (moved_is : get_or ps moved 0 ≡ length es - 1) where
  abbrev gs : List Key
  gs = keys_held es

  abbrev ks : List Key
  ks = keys_of es

  long : length ps ≡ length gs
  long = at_length ks ps gs order

  many : length ks ≡ length es
  many = length-map es (λ e. e.0)

  once : (a b : ℕ) → a < length gs → b < length gs → get_or ps a 0 ≡ get_or ps b 0 → a ≡ b
  once = once_in_order es ps order

  abbrev after : List Key
  after = take (length ks - 1) (set ks p (get_or ks (length ks - 1) d.0))

  keys_swapped : keys_of (swap_remove es p d) ≡ after
  keys_swapped = map_swapped (λ e. e.0) es p d d.0 (omega (arith, within))

  left_at : (r x : ℕ) (g : Key) → r < length gs → (r ≡ at → ⊥) → slice_get (keys_of (swap_remove es p d)) (get_or (set ps moved p) r x) ≡ Some (get_or gs r g)
  left_at r x g low apart = ap (λ l. slice_get l (get_or (set ps moved p) r x)) keys_swapped ∙ by (cases_lt r moved) (cases_lt moved r)
    where
      other : (r ≡ moved → ⊥) → slice_get after (get_or (set ps moved p) r x) ≡ Some (get_or gs r g)
      other differ =
          let here : get_or (set ps moved p) r x ≡ get_or ps r 0 = get_or-set_other ps moved r p x differ ∙ same_default ps r x 0 (omega (arith, low, long)) in
          let there = at_get ks ps gs r 0 g order low in
          let inside : get_or ps r 0 < length ks = slice_get_within ks (get_or ps r 0) (get_or gs r g) there in
          let not_last : get_or ps r 0 ≡ length es - 1 → ⊥ = λ e. differ (once r moved low (omega (arith, moved_low, long)) (e ∙ sym moved_is)) in
          let not_gone : get_or ps r 0 ≡ p → ⊥ = λ e. apart (once r at low (omega (arith, at_low, long)) (e ∙ sym at_is)) in
          ap (slice_get after) here ∙ swapped_other ks p (get_or ps r 0) d.0 (less_by_one (get_or ps r 0) (length ks) inside (λ e. not_last (e ∙ ap (λ n. n - 1) many))) not_gone ∙ there
        where
          less_by_one : (a n : ℕ) → a < n → (a ≡ n - 1 → ⊥) → a < n - 1
          less_by_one a n h apart = omega (arith, h, apart)

          same_default : (xs : List ℕ) (i a b : ℕ) → i < length xs → get_or xs i a ≡ get_or xs i b
          same_default [] i a b h = absurd (omega arith)
          same_default (x ∷ xs) zero a b h = refl
          same_default (x ∷ xs) (suc i) a b h = same_default xs i a b (omega arith)

      same : r ≡ moved → slice_get after (get_or (set ps moved p) r x) ≡ Some (get_or gs r g)
      same is =
          let here : get_or (set ps moved p) r x ≡ p = ap (λ n. get_or (set ps moved p) n x) is ∙ get_or-set_same ps moved p x moved_low in
          let there = at_get ks ps gs r 0 g order low in
          let last : get_or ps r 0 ≡ length ks - 1 = ap (λ n. get_or ps n 0) is ∙ moved_is ∙ ap (λ n. n - 1) (sym many) in
          let not_gone : p ≡ length ks - 1 → ⊥ = λ e. apart (once r at low (omega (arith, at_low, long)) (last ∙ sym e ∙ sym at_is)) in
          let under : p < length ks - 1 = omega (arith, within, many, not_gone) in
          ap (slice_get after) here ∙ swapped_same ks p d.0 under ∙ ap (slice_get ks) (sym last) ∙ there

      by : (r < moved) ⊎ (moved ≤ r) → (moved < r) ⊎ (r ≤ moved) → slice_get after (get_or (set ps moved p) r x) ≡ Some (get_or gs r g)
      by (inl under) _ = other (λ e. omega (arith, under, e))
      by (inr _) (inl over) = other (λ e. omega (arith, over, e))
      by (inr a) (inr b) = same (omega (arith, a, b))

  pub order_removed : (fs : Entries) (k : Key) (l : Listed) → slice_get ks p ≡ Some k → get (held es) k ≡ Some l → fs ≡ swap_remove es p d → held fs ≡ remove (held es) k → IsInOrder fs (take_out (set ps moved p) at)
  order_removed fs k l key there made is =
      let low : at < length gs = omega (arith, at_low, long) in
      let here : get_or gs at k ≡ k = same_some _ _ (sym (at_get ks ps gs at 0 k order low) ∙ ap (slice_get ks) at_is ∙ key) in
      ap (λ l. at_places (keys_of l) (take_out (set ps moved p) at)) made
      ∙ at_removed (keys_of (swap_remove es p d)) (set ps moved p) gs at (length-set ps moved p ∙ long) left_at
      ∙ ap (map (λ (x : Key). Some x)) (sym (ap keys is ∙ keys_taken_out (held es) k l at there low here))

-- ---- the keys of an application

-- an application before that of a key is before that of each later one
before_app : (x y : Key) → key_cmp x y ≡ Less → (name_cmp x.app y.app ≡ Less) ⊎ (name_cmp x.app y.app ≡ Equal)
before_app x y up = by (name_cmp x.app y.app) up
  where
    by : (r : Ordering) → ordering_then r (name_cmp x.id y.id) ≡ Less → (r ≡ Less) ⊎ (r ≡ Equal)
    by Less h = inl refl
    by Equal h = inr refl
    by Greater h = cc

pub before_holds_first : (app : List ℕ) (es : Entries) → IsPartitionedBy (is_before app) (keys_held es)
before_holds_first app es = holds_first (is_before app) (λ x y up holds. by x y holds (before_app x y up)) es
  where
    by : (x y : Key) → is_before app y ≡ true → (name_cmp x.app y.app ≡ Less) ⊎ (name_cmp x.app y.app ≡ Equal) → is_before app x ≡ true
    by x y holds (inl less) = ap is_lt (names_total.trans x.app y.app app less (less_of_test (name_cmp y.app app) holds))
    by x y holds (inr same) = ap is_lt (names_total.congr x.app y.app app same) ∙ holds

below : (app : List ℕ) (x y : Key) (r : Ordering) → name_cmp y.app app ≡ r → is_le r ≡ true → name_cmp x.app y.app ≡ Less → is_through app x ≡ true
below app x y Less is holds less = ap is_le (names_total.trans x.app y.app app less is)
below app x y Equal is holds less = ap is_le (ap (name_cmp x.app) (sym (names_exact y.app app is)) ∙ less)
below app x y Greater is holds less = cc

pub through_holds_first : (app : List ℕ) (es : Entries) → IsPartitionedBy (is_through app) (keys_held es)
through_holds_first app es = holds_first (is_through app) (λ x y up holds. by x y holds (before_app x y up)) es
  where
    by : (x y : Key) → is_through app y ≡ true → (name_cmp x.app y.app ≡ Less) ⊎ (name_cmp x.app y.app ≡ Equal) → is_through app x ≡ true
    by x y holds (inl less) = below app x y (name_cmp y.app app) refl holds less
    by x y holds (inr same) = ap is_le (names_total.congr x.app y.app app same) ∙ holds

before_through : (app : List ℕ) (x : Key) → is_before app x ≡ true → is_through app x ≡ true
before_through app x = within (name_cmp x.app app)
  where
    within : (r : Ordering) → is_lt r ≡ true → is_le r ≡ true
    within Less h = refl
    within Equal h = cc
    within Greater h = cc

fewer : (s t : Key → Bool) → ((x : Key) → s x ≡ true → t x ≡ true) → (gs : List Key) → prefix_len s gs ≤ prefix_len t gs
fewer s t narrow [] = omega arith
fewer s t narrow (x ∷ gs) = by (fewer s t narrow gs) (s x) (t x) refl refl
  where
    at : (b c : Bool) → s x ≡ b → t x ≡ c → cond b (1 + prefix_len s gs) 0 ≤ cond c (1 + prefix_len t gs) 0 → prefix_len s (x ∷ gs) ≤ prefix_len t (x ∷ gs)
    at b c is_b is_c h = subst (λ v. cond v (1 + prefix_len s gs) 0 ≤ prefix_len t (x ∷ gs)) (sym is_b) (subst (λ v. cond b (1 + prefix_len s gs) 0 ≤ cond v (1 + prefix_len t gs) 0) (sym is_c) h)

    by : prefix_len s gs ≤ prefix_len t gs → (b c : Bool) → s x ≡ b → t x ≡ c → prefix_len s (x ∷ gs) ≤ prefix_len t (x ∷ gs)
    by rest true true is_b is_c = at true true is_b is_c (omega (arith, rest))
    by rest true false is_b is_c = absurd (true≢false (sym (narrow x is_b) ∙ is_c))
    by rest false true is_b is_c = at false true is_b is_c (omega arith)
    by rest false false is_b is_c = at false false is_b is_c (omega arith)

pub before_or_through : (app : List ℕ) (es : Entries) → prefix_len (is_before app) (keys_held es) ≤ prefix_len (is_through app) (keys_held es)
before_or_through app es = fewer (is_before app) (is_through app) (before_through app) (keys_held es)

of_app : (app : List ℕ) (es : Entries) → filter (is_of (Some app)) (keys_held es)
    ≡ take (prefix_len (is_through app) (keys_held es) - prefix_len (is_before app) (keys_held es)) (drop (prefix_len (is_before app) (keys_held es)) (keys_held es))
of_app app es =
    filter_agree (is_of (Some app)) (λ x. is_through app x && not (is_before app x)) (λ x. name_eq-ties x.app app ∙ between (name_cmp x.app app)) (keys_held es)
    ∙ segment (is_before app) (is_through app) (before_through app) (keys_held es) (before_holds_first app es) (through_holds_first app es)
  where
    between : (r : Ordering) → is_eq r ≡ (is_le r && not (is_lt r))
    between Less = refl
    between Equal = refl
    between Greater = refl

pub part_of : (app : List ℕ) (es : Entries) (ps : List ℕ) → IsInOrder es ps
    → at_places (keys_of es) (take (prefix_len (is_through app) (keys_held es) - prefix_len (is_before app) (keys_held es)) (drop (prefix_len (is_before app) (keys_held es)) ps)) ≡ map Some (filter (is_of (Some app)) (keys_held es))
part_of app es ps order =
    let low = prefix_len (is_before app) (keys_held es) in
    let high = prefix_len (is_through app) (keys_held es) in
    at_part (keys_of es) ps (keys_held es) (high - low) low order ∙ ap (map (λ (k : Key). Some k)) (sym (of_app app es))

pub part_of_all : (es : Entries) (ps : List ℕ) → IsInOrder es ps → at_places (keys_of es) ps ≡ map Some (filter (is_of None) (keys_held es))
part_of_all es ps order = order ∙ ap (map (λ (k : Key). Some k)) (sym (filter_true (keys_held es)))

keys_where : (p : Key → Bool) (es : Entries) → keys_of (where_key key_cmp p es) ≡ filter p (keys_of es)
keys_where p [] = refl
keys_where p (e ∷ es) = by (p e.0) (keys_where p es)
  where
    by : (b : Bool) → keys_of (where_key key_cmp p es) ≡ filter p (keys_of es) → keys_of (cond b (e ∷ where_key key_cmp p es) (where_key key_cmp p es)) ≡ cond b (e.0 ∷ filter p (keys_of es)) (filter p (keys_of es))
    by true h = ap (λ ks. e.0 ∷ ks) h
    by false h = h

-- at the places of keys stand the values that are looked up by them
values_at : (es : Entries) (ps : List ℕ) (rows : Entries) → IsDistinct key_eq (keys_of es) → ((i : ℕ) (e : Key × Listed) → slice_get rows i ≡ Some e → lookup (key_eq e.0) es ≡ Some e.1)
    → at_places (keys_of es) ps ≡ map Some (keys_of rows) → at_places (values_of es) ps ≡ map Some (values_of rows)
values_at es ps rows apart there h = at_from (values_of es) ps (values_of rows) (at_length (keys_of es) ps (keys_of rows) h ∙ length-map rows (λ e. e.0) ∙ sym (length-map rows (λ e. e.1))) by
  where
    by : (i d : ℕ) (v : Listed) → i < length (values_of rows) → slice_get (values_of es) (get_or ps i d) ≡ Some (get_or (values_of rows) i v)
    by i d v low =
        let row = entry_there rows i (omega (arith, low, length-map rows (λ e. e.1))) in
        let key_at = at_get (keys_of es) ps (keys_of rows) i d nobody h (omega (arith, low, length-map rows (λ e. e.1), length-map rows (λ e. e.0))) in
        let within = slice_get_within (keys_of es) (get_or ps i d) (get_or (keys_of rows) i nobody) key_at in
        let entry = entry_there es (get_or ps i d) (omega (arith, within, length-map es (λ e. e.0))) in
        let row_key = get_or_from_slice_get (keys_of rows) i row.0.0 nobody (slice_get-map (λ (f : Key × Listed). f.0) rows i ∙ ap (option_map (λ (f : Key × Listed). f.0)) row.1) in
        let value = get_or_from_slice_get (values_of rows) i row.0.1 v (slice_get-map (λ (f : Key × Listed). f.1) rows i ∙ ap (option_map (λ (f : Key × Listed). f.1)) row.1) in
        let key : entry.0.0 ≡ row.0.0 = same_some _ _ (sym (slice_get-map (λ (f : Key × Listed). f.0) es (get_or ps i d) ∙ ap (option_map (λ (f : Key × Listed). f.0)) entry.1) ∙ key_at) ∙ row_key in
        let found = lookup_from_place key_equiv es (get_or ps i d) entry.0.0 entry.0.1 apart entry.1 in
        let same : ◌≡◌ {A = Option Listed} (Some entry.0.1) (Some row.0.1) = sym found ∙ ap (λ k. lookup (key_eq k) es) key ∙ there i row.0 row.1 in
        slice_get-map (λ f. f.1) es (get_or ps i d) ∙ ap (option_map (λ (f : Key × Listed). f.1)) entry.1 ∙ same ∙ ap (λ (v : Listed). Some v) (sym value)

-- what is listed is held in the table
pub row_held : (p : Key → Bool) (es : Entries) (i : ℕ) (e : Key × Listed) → slice_get (where_key key_cmp p (entries (held es))) i ≡ Some e → lookup (key_eq e.0) es ≡ Some e.1
row_held p es i e at =
    let fs = entries (held es) in
    let rows = where_key key_cmp p fs in
    let sorted = is_sorted-where_key key_cmp p fs (entries_sorted (held es)) in
    let apart = IsDistinct-from_sorted key_cmp (keys_of rows) (sorted_keys key_cmp rows sorted) in
    let found = find_is_lookup key_cmp e.0 rows ∙ lookup_from_place (eq_by_cmp_equiv keys_total) rows i e.0 e.1 apart at in
    let kept : cond (p e.0) (find key_cmp e.0 fs) None ≡ Some e.1 = sym (find-where_key key_cmp p e.0 (λ x same. ap p (sym (keys_exact e.0 x same))) fs) ∙ found in
    sym (get_at by_key es e.0) ∙ get-entries (held es) e.0 ∙ passed (p e.0) kept
  where
    passed : (b : Bool) → cond b (find key_cmp e.0 (entries (held es))) None ≡ Some e.1 → find key_cmp e.0 (entries (held es)) ≡ Some e.1
    passed true h = h
    passed false h = cc

-- what stands at the places of an application's keys is its listing
pub listing_at : (app : Option (List ℕ)) (es : Entries) (ps : List ℕ) → IsDistinct key_eq (keys_of es) → at_places (keys_of es) ps ≡ map Some (filter (is_of app) (keys_held es))
    → at_places (values_of es) ps ≡ map Some (listing_of app (held es))
listing_at app es ps apart h =
    values_at es ps (rows_of app (held es)) apart (row_held (is_of app) es) (h ∙ ap (map (λ (k : Key). Some k)) (sym (keys_where (is_of app) (entries (held es)))))

-- what holds of what stands at the first places holds at one more
pub one_more_holds : {X : Type 0} (P : X → Type 0) (xs : List X) (ps : List ℕ) (n : ℕ) (x : X)
    → ((j : ℕ) (y : X) → j < n → slice_get xs (get_or ps j 0) ≡ Some y → P y) → slice_get xs (get_or ps n 0) ≡ Some x → P x
    → (j : ℕ) (y : X) → j < n + 1 → slice_get xs (get_or ps j 0) ≡ Some y → P y
one_more_holds P xs ps n x holds there is_so j y low at = by (cases_lt j n)
  where
    by : (j < n) ⊎ (n ≤ j) → P y
    by (inl under) = holds j y under at
    by (inr over) = let is : j ≡ n = omega (arith, low, over) in subst P (same_some x y (sym there ∙ ap (λ i. slice_get xs (get_or ps i 0)) (sym is) ∙ at)) is_so

-- where few places are an application's, and what stands there is short, its listing is brief
pub brief_at : (few short : ℕ) (app : Option (List ℕ)) (es : Entries) (ps : List ℕ) → IsDistinct key_eq (keys_of es) → at_places (keys_of es) ps ≡ map Some (filter (is_of app) (keys_held es))
    → length ps ≤ few → ((j : ℕ) (l : Listed) → j < length ps → slice_get (values_of es) (get_or ps j 0) ≡ Some l → IsShort short l.instance) → IsBrief few short (listing_of app (held es))
brief_at few short app es ps apart h low each =
    let gs = listing_of app (held es) in
    let listed = listing_at app es ps apart h in
    let long = at_length (values_of es) ps gs listed in (
      omega (arith, low, long),
      λ i l at.
          let within = slice_get_within gs i l at in
          each i l (omega (arith, within, long)) (at_get (values_of es) ps gs i 0 l listed within ∙ ap (λ (v : Listed). Some v) (get_or_from_slice_get gs i l l at)),
    )

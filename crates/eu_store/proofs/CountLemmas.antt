-- The counts by status after each step of a map of leases
use Rattle.std.proofs.Common.{◌≡◌, ℕ, ◌+◌, ◌-◌, ◌<◌, ◌≤◌, Bool, true, false, cond, List, [], ◌∷◌, map, filter, length, refl, sym, ap, ◌∙◌, Option, None, Some, is_some, arith, Ordering, Less, Equal, Greater}
use Rattle.std.specs.List.{sum_by}
use Rattle.std.specs.Ordering.{is_eq, eq_by_cmp}
use Rattle.std.specs.FinMap.{FinMap, insert, remove, get, empty, len, entries, entries-insert, get-entries, get-insert, get-remove, len-entries, len-insert, len-empty, same_map}
use Rattle.std.specs.FinMap.Entries.{by_order, put, find}
use Rattle.std.proofs.lemmas.List.Sums.{sum_by-cons, count_by-le-length}
use Rattle.std.proofs.lemmas.Cmp.{tied_itself}
use Rattle.eu_base.specs.declared.names.Key.{Key}
use Rattle.eu_base.specs.declared.statuses.Status.{Status}
use Rattle.eu_base.specs.declared.statuses.Status.TheVariants.{Up, Down, Starting, OutOfService, Unknown}
use Rattle.eu_base.specs.Values.{key_cmp}
use Rattle.eu_base.proofs.KeyLemmas.{keys_total, keys_exact}
use Rattle.eu_model.specs.declared.status_counts.StatusCounts.{StatusCounts}
use Rattle.eu_model.specs.declared.views.Listed.{Listed}
use Rattle.eu_model.specs.Change.{is_status}
use Rattle.eu_model.proofs.ListingLemmas.{filter_true}
use Rattle.eu_model.specs.View.{number_in, status_counts, with_one_more, with_one_fewer, in_status}
use Rattle.eu_store.specs.Stored.{counts_of, listing_of}
use Rattle.eu_store.proofs.TableLemmas.{by_key, map_of, insert_same}

-- ---- what a status counts

-- 1 where they are the same status
abbrev one : Status → Status → ℕ
one t s = cond (is_status t s) 1 0

in_more : (c : StatusCounts) (t s : Status) → in_status (with_one_more c t) s ≡ in_status c s + one t s
in_more c Up s = elim s as (λ s. in_status (with_one_more c Up) s ≡ in_status c s + one Up s) [ Up ↦ omega arith | Down ↦ omega arith | Starting ↦ omega arith | OutOfService ↦ omega arith | Unknown ↦ omega arith ]
in_more c Down s = elim s as (λ s. in_status (with_one_more c Down) s ≡ in_status c s + one Down s) [ Up ↦ omega arith | Down ↦ omega arith | Starting ↦ omega arith | OutOfService ↦ omega arith | Unknown ↦ omega arith ]
in_more c Starting s = elim s as (λ s. in_status (with_one_more c Starting) s ≡ in_status c s + one Starting s) [ Up ↦ omega arith | Down ↦ omega arith | Starting ↦ omega arith | OutOfService ↦ omega arith | Unknown ↦ omega arith ]
in_more c OutOfService s = elim s as (λ s. in_status (with_one_more c OutOfService) s ≡ in_status c s + one OutOfService s) [ Up ↦ omega arith | Down ↦ omega arith | Starting ↦ omega arith | OutOfService ↦ omega arith | Unknown ↦ omega arith ]
in_more c Unknown s = elim s as (λ s. in_status (with_one_more c Unknown) s ≡ in_status c s + one Unknown s) [ Up ↦ omega arith | Down ↦ omega arith | Starting ↦ omega arith | OutOfService ↦ omega arith | Unknown ↦ omega arith ]

in_fewer : (c : StatusCounts) (t s : Status) → in_status (with_one_fewer c t) s ≡ in_status c s - one t s
in_fewer c Up s = elim s as (λ s. in_status (with_one_fewer c Up) s ≡ in_status c s - one Up s) [ Up ↦ omega arith | Down ↦ omega arith | Starting ↦ omega arith | OutOfService ↦ omega arith | Unknown ↦ omega arith ]
in_fewer c Down s = elim s as (λ s. in_status (with_one_fewer c Down) s ≡ in_status c s - one Down s) [ Up ↦ omega arith | Down ↦ omega arith | Starting ↦ omega arith | OutOfService ↦ omega arith | Unknown ↦ omega arith ]
in_fewer c Starting s = elim s as (λ s. in_status (with_one_fewer c Starting) s ≡ in_status c s - one Starting s) [ Up ↦ omega arith | Down ↦ omega arith | Starting ↦ omega arith | OutOfService ↦ omega arith | Unknown ↦ omega arith ]
in_fewer c OutOfService s = elim s as (λ s. in_status (with_one_fewer c OutOfService) s ≡ in_status c s - one OutOfService s) [ Up ↦ omega arith | Down ↦ omega arith | Starting ↦ omega arith | OutOfService ↦ omega arith | Unknown ↦ omega arith ]
in_fewer c Unknown s = elim s as (λ s. in_status (with_one_fewer c Unknown) s ≡ in_status c s - one Unknown s) [ Up ↦ omega arith | Down ↦ omega arith | Starting ↦ omega arith | OutOfService ↦ omega arith | Unknown ↦ omega arith ]

in_counts : (ls : List Listed) (s : Status) → in_status (status_counts ls) s ≡ number_in ls s
in_counts ls Up = refl
in_counts ls Down = refl
in_counts ls Starting = refl
in_counts ls OutOfService = refl
in_counts ls Unknown = refl

same_counts : (a b : StatusCounts) → ((s : Status) → in_status a s ≡ in_status b s) → a ≡ b
same_counts a b h = λ i. record { up = h Up i; down = h Down i; starting = h Starting i; out_of_service = h OutOfService i; unknown = h Unknown i }

one_itself : (s : Status) → one s s ≡ 1
one_itself Up = refl
one_itself Down = refl
one_itself Starting = refl
one_itself OutOfService = refl
one_itself Unknown = refl

-- ---- counts over a map

-- how much some weight of leases makes in all
abbrev total : {K X : Type 0} → (X → ℕ) → List (K × X) → ℕ
total w es = sum_by (λ e. w e.1) es

module _ {K X : Type 0} (R : K → K → Ordering) (w : X → ℕ) where
  total_put : (k : K) (v : X) (es : List (K × X)) → find R k es ≡ None → total w (put R k v es) ≡ w v + total w es
  total_put k v [] none = sum_by-cons (λ (e : K × X). w e.1) (k, v) []
  total_put k v (e ∷ es) none = by (R k e.0) none (total_put k v es)
    where
      by : (r : Ordering) → cond (is_eq r) (Some e.1) (find R k es) ≡ None → (find R k es ≡ None → total w (put R k v es) ≡ w v + total w es)
          → total w (by_order r ((k, v) ∷ e ∷ es) ((e.0, v) ∷ es) (e ∷ put R k v es)) ≡ w v + total w (e ∷ es)
      by Less none rest = sum_by-cons (λ (e : K × X). w e.1) (k, v) (e ∷ es)
      by Equal none rest = absurd (nothing none)
        where
          nothing : ◌≡◌ {A = Option X} (Some e.1) None → ⊥
          nothing h = cc
      by Greater none rest = omega (arith, rest none, sum_by-cons (λ (e : K × X). w e.1) e es, sum_by-cons (λ (e : K × X). w e.1) e (put R k v es))

abbrev weight : Status → Listed → ℕ
weight s l = one l.instance.status s

abbrev Held : Type 0
Held = FinMap key_cmp Listed

number_is : (s : Status) (es : List (Key × Listed)) → number_in (map (λ e. e.1) es) s ≡ total (weight s) es
number_is s [] = refl
number_is s (e ∷ es) = omega (arith, sum_by-cons (weight s) e.1 (map (λ e. e.1) es), sum_by-cons (λ (e : Key × Listed). weight s e.1) e es, number_is s es)

-- so many of a status are held
number_held : (m : Held) (s : Status) → in_status (counts_of m) s ≡ total (weight s) (entries m)
number_held m s = in_counts (listing_of None m) s ∙ ap (λ es. number_in (map (λ e. e.1) es) s) (filter_true (entries m)) ∙ number_is s (entries m)

total_new : (w : Listed → ℕ) (m : Held) (k : Key) (l : Listed) → get m k ≡ None → total w (entries (insert m k l)) ≡ w l + total w (entries m)
total_new w m k l none = ap (total w) (entries-insert keys_total m k l) ∙ total_put key_cmp w k l (entries m) (sym (get-entries m k) ∙ none)

pub get_removed : (m : Held) (k : Key) → get (remove m k) k ≡ None
get_removed m k = get-remove keys_total m k k ∙ ap (λ (r : Ordering). cond (is_eq r) None (get m k)) (tied_itself keys_total k)

-- a lease that is put anew
pub insert_removed : (m : Held) (k : Key) (l : Listed) → insert (remove m k) k l ≡ insert m k l
insert_removed m k l = same_map keys_total keys_exact _ _ (λ q.
    get-insert keys_total (remove m k) k l q
    ∙ ap (cond (eq_by_cmp key_cmp q k) (Some l)) (get-remove keys_total m k q)
    ∙ elim (eq_by_cmp key_cmp q k) as (λ b. cond b (Some l) (cond b None (get m q)) ≡ cond b (Some l) (get m q)) [ true ↦ refl | false ↦ refl ]
    ∙ sym (get-insert keys_total m k l q))

-- what is held, and what is left without the lease at a key
total_left : (w : Listed → ℕ) (m : Held) (k : Key) (l : Listed) → total w (entries (insert m k l)) ≡ w l + total w (entries (remove m k))
total_left w m k l = ap (λ n. total w (entries n)) (sym (insert_removed m k l)) ∙ total_new w (remove m k) k l (get_removed m k)

total_with : (w : Listed → ℕ) (m : Held) (k : Key) (l : Listed) → get m k ≡ Some l → total w (entries m) ≡ w l + total w (entries (remove m k))
total_with w m k l there = ap (λ n. total w (entries n)) (sym (insert_same by_key m k l there)) ∙ total_left w m k l

nothing : {A : Type 0} (xs : List A) → length xs ≡ 0 → xs ≡ []
nothing [] e = refl
nothing (x ∷ xs) e = absurd (omega arith)

-- ---- each step

-- nothing is held in the empty map
abbrev pub none_held : Held
none_held = empty

pub entries_none : entries none_held ≡ []
entries_none = nothing (entries none_held) (sym (len-entries none_held) ∙ len-empty key_cmp Listed)

pub counts_none : status_counts [] ≡ counts_of (map_of [])
counts_none =
    ap (λ (es : List (Key × Listed)). status_counts (map (λ e. e.1) (filter (λ e. true) es))) (sym entries_none)

pub counts_inserted : (m : Held) (k : Key) (l : Listed) → get m k ≡ None → with_one_more (counts_of m) l.instance.status ≡ counts_of (insert m k l)
counts_inserted m k l none = same_counts _ _ (λ s. omega (arith, in_more (counts_of m) l.instance.status s, number_held m s, number_held (insert m k l) s, total_new (weight s) m k l none))

pub counts_removed : (m : Held) (k : Key) (l : Listed) → get m k ≡ Some l → with_one_fewer (counts_of m) l.instance.status ≡ counts_of (remove m k)
counts_removed m k l there = same_counts _ _ (λ s. omega (arith, in_fewer (counts_of m) l.instance.status s, number_held m s, number_held (remove m k) s, total_with (weight s) m k l there))

pub counts_changed : (m : Held) (k : Key) (l n : Listed) → get m k ≡ Some l → with_one_more (with_one_fewer (counts_of m) l.instance.status) n.instance.status ≡ counts_of (insert m k n)
counts_changed m k l n there = same_counts _ _ (λ s.
    omega (arith, in_more (with_one_fewer (counts_of m) l.instance.status) n.instance.status s, in_fewer (counts_of m) l.instance.status s, number_held m s, number_held (insert m k n) s, total_with (weight s) m k l there, total_left (weight s) m k n))

-- who is held is counted
pub counted_there : (m : Held) (k : Key) (l : Listed) → get m k ≡ Some l → 0 < in_status (counts_of m) l.instance.status
counted_there m k l there = omega (arith, number_held m l.instance.status, total_with (weight l.instance.status) m k l there, one_itself l.instance.status)

-- no more are counted than the table has entries
len_most : (es : List (Key × Listed)) → len (map_of {R = key_cmp} es) ≤ length es
len_most [] = omega (arith, len-empty key_cmp Listed)
len_most (e ∷ es) = by (is_some (get (map_of {R = key_cmp} es) e.0)) (len-insert keys_total (map_of {R = key_cmp} es) e.0 e.1) (len_most es)
  where
    by : (b : Bool) → len (map_of {R = key_cmp} (e ∷ es)) ≡ cond b (len (map_of {R = key_cmp} es)) (len (map_of {R = key_cmp} es) + 1) → len (map_of {R = key_cmp} es) ≤ length es → len (map_of {R = key_cmp} (e ∷ es)) ≤ length (e ∷ es)
    by true is rest = omega (arith, is, rest)
    by false is rest = omega (arith, is, rest)

length-values : (es : List (Key × Listed)) → length (map (λ e. e.1) es) ≡ length es
length-values [] = refl
length-values (e ∷ es) = omega (arith, length-values es)

pub counts_most : (es : List (Key × Listed)) (s : Status) → in_status (counts_of (map_of es)) s ≤ length es
counts_most es s =
    let m : Held = map_of es in
    let held = ap (λ fs. length (map (λ e. e.1) fs)) (filter_true (entries m)) ∙ length-values (entries m) ∙ sym (len-entries m) in
    omega (arith, in_counts (listing_of None m) s, count_by-le-length (λ (l : Listed). is_status l.instance.status s) (listing_of None m), held, len_most es)

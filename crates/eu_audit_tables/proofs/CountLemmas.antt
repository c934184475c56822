-- Sums over the entries of a sorted table, and what they say of deadlines
use Rattle.std.proofs.Common.{◌≡◌, ℕ, ◌+◌, ◌-◌, ◌<◌, ◌≤◌, ltb, Bool, true, false, cond, List, [], ◌∷◌, length, filter, count_by, sum_by, refl, ap, sym, ◌∙◌, Option, None, Some, unwrap_or, arith}
use Rattle.std.specs.Option.{option_map}
use Rattle.std.specs.List.{AllByRecursion}
use Rattle.std.specs.Map.{lookup, keys_of, remove_entry}
use Rattle.std.specs.BTreeMap.{is_at, insert_entry}
use Rattle.std.specs.List.Sorted.{IsStrictlySortedBy}
use Rattle.std.specs.FinMap.{IsAntisymmetric, nat_cmp-IsAntisymmetric}
use Rattle.std.specs.declared.cmp.Ordering.{Ordering}
use Rattle.std.specs.declared.cmp.Ordering.TheVariants.{Less, Equal, Greater}
use Rattle.std.specs.Ordering.{MatchOrdering, is_eq, match_ordering, nat_cmp}
use Rattle.std.specs.Cmp.{IsTotalOrder, eq_by_cmp_equiv}
use Rattle.std.proofs.lemmas.Cmp.{ranked, nat_cmp_total}
use Rattle.std.proofs.lemmas.Map.{lookup-none}
use Rattle.std.proofs.lemmas.Map.Entries.{none_below_head, none_past_head}
use Rattle.std.proofs.lemmas.Map.Keys.{sorted_head, sorted_tail, IsDistinct-from_sorted}
use Rattle.std.proofs.lemmas.List.Sums.{sum_by-cons, sum_by-le-sum_by, length-filter}
use borrow.Author.Tests.{ltb-true, ltb-false, lt-ltb, le-ltb}
use Rattle.eu_base.specs.declared.names.Key.{Key}
use Rattle.eu_base.specs.Values.{key_cmp}
use Rattle.eu_base.proofs.KeyLemmas.{keys_total, keys_exact}
use Rattle.eu_model.specs.declared.views.Listed.{Listed}
use Rattle.eu_model.specs.PlainSteps.{plain_expired}
use Rattle.eu_audit_tables.specs.Counted.{counted, count_at, one_before, held_before, deadline_of}

module _ {K X : Type 0} {R : K → K → Ordering} (same : IsAntisymmetric R) (f : K × X → ℕ) where
  -- what stands at a key, weighed
  abbrev pub weight : K → Option X → ℕ
  weight k o = unwrap_or (option_map (λ v. f (k, v)) o) 0

  pub sum_by-remove_entry : (es : List (K × X)) (k : K) → sum_by f (remove_entry (is_at (R k)) es) + weight k (lookup (is_at (R k)) es) ≡ sum_by f es
  sum_by-remove_entry [] k = refl
  sum_by-remove_entry (e ∷ es) k = by (R k e.0) refl (sum_by-remove_entry es k)
    where
      by : (r : Ordering) → R k e.0 ≡ r → sum_by f (remove_entry (is_at (R k)) es) + weight k (lookup (is_at (R k)) es) ≡ sum_by f es
          → sum_by f (cond (is_eq r) es (e ∷ remove_entry (is_at (R k)) es)) + weight k (cond (is_eq r) (Some e.1) (lookup (is_at (R k)) es)) ≡ sum_by f (e ∷ es)
      by Less p later = omega (arith, sum_by-cons f e es, sum_by-cons f e (remove_entry (is_at (R k)) es))
      by Equal p later =
          let at : f (k, e.1) ≡ f e = ap (λ (x : K). f (x, e.1)) (same k e.0 p) in
          omega (arith, at, sum_by-cons f e es)
      by Greater p later = omega (arith, sum_by-cons f e es, sum_by-cons f e (remove_entry (is_at (R k)) es))

  pub sum_by-insert_entry : IsTotalOrder R → (es : List (K × X)) (k : K) (v : X) → IsStrictlySortedBy R (keys_of es)
      → sum_by f (insert_entry R es k v) + weight k (lookup (is_at (R k)) es) ≡ sum_by f es + f (k, v)
  sum_by-insert_entry o [] k v s = omega (arith, sum_by-cons f (k, v) [])
  sum_by-insert_entry o (e ∷ es) k v s = by (R k e.0) refl (sum_by-insert_entry o es k v (sorted_tail R e.0 (keys_of es) s))
    where
      by : (r : Ordering) → R k e.0 ≡ r → sum_by f (insert_entry R es k v) + weight k (lookup (is_at (R k)) es) ≡ sum_by f es + f (k, v)
          → sum_by f (match_ordering r ((k, v) ∷ e ∷ es) ((e.0, v) ∷ es) (e ∷ insert_entry R es k v)) + weight k (cond (is_eq r) (Some e.1) (lookup (is_at (R k)) es)) ≡ sum_by f (e ∷ es) + f (k, v)
      by Less p later = omega (arith, sum_by-cons f (k, v) (e ∷ es), ap (weight k) (lookup-none (is_at (R k)) es (none_below_head o k e es s p).1))
      by Equal p later =
          let old : f (k, e.1) ≡ f e = ap (λ (x : K). f (x, e.1)) (same k e.0 p) in
          let new : f (e.0, v) ≡ f (k, v) = ap (λ (x : K). f (x, v)) (sym (same k e.0 p)) in
          omega (arith, old, new, sum_by-cons f e es, sum_by-cons f (e.0, v) es)
      by Greater p later = omega (arith, sum_by-cons f e es, sum_by-cons f e (insert_entry R es k v))

-- ---- the numbers of deadlines

abbrev within : ℕ → ℕ × ℕ → ℕ
within limit c = cond (ltb c.0 limit) c.1 0

counted-cons : (c : ℕ × ℕ) (cs : List (ℕ × ℕ)) (limit : ℕ) → counted (c ∷ cs) limit ≡ within limit c + counted cs limit
counted-cons c cs limit = sum_by-cons (within limit) c cs

-- what a cell counts, where its deadline lies before the limit
weight-within : (limit d : ℕ) (o : Option ℕ) → weight nat_cmp-IsAntisymmetric (within limit) d o ≡ cond (ltb d limit) (unwrap_or o 0) 0
weight-within limit d None = by (ltb d limit)
  where
    by : (b : Bool) → ◌≡◌ {A = ℕ} 0 (cond b 0 0)
    by true = refl
    by false = refl
weight-within limit d (Some n) = refl

-- a cell's count is a part of all
pub count_at-le : (cs : List (ℕ × ℕ)) (d : ℕ) → count_at cs d ≤ counted cs (d + 1)
count_at-le cs d =
    let whole = sum_by-remove_entry nat_cmp-IsAntisymmetric (within (d + 1)) cs d in
    let part = weight-within (d + 1) d (lookup (is_at (nat_cmp d)) cs) in
    let here : cond (ltb d (d + 1)) (count_at cs d) 0 ≡ count_at cs d = ap (λ b. cond b (count_at cs d) 0) (lt-ltb d (d + 1) (omega arith)) in
    omega (arith, whole, part, here)

-- another count in a cell
pub counted-put : (cs : List (ℕ × ℕ)) (d n limit : ℕ) → IsStrictlySortedBy nat_cmp (keys_of cs)
    → counted (insert_entry nat_cmp cs d n) limit + cond (ltb d limit) (count_at cs d) 0 ≡ counted cs limit + cond (ltb d limit) n 0
counted-put cs d n limit up =
    let whole = sum_by-insert_entry nat_cmp-IsAntisymmetric (within limit) nat_cmp_total cs d n up in
    omega (arith, whole, weight-within limit d (lookup (is_at (nat_cmp d)) cs))

-- no count in a cell
pub counted-remove : (cs : List (ℕ × ℕ)) (d limit : ℕ) → counted (remove_entry (is_at (nat_cmp d)) cs) limit + cond (ltb d limit) (count_at cs d) 0 ≡ counted cs limit
counted-remove cs d limit =
    let whole = sum_by-remove_entry nat_cmp-IsAntisymmetric (within limit) cs d in
    omega (arith, whole, weight-within limit d (lookup (is_at (nat_cmp d)) cs))

pub counted-one_more : (cs : List (ℕ × ℕ)) (d n limit : ℕ) → IsStrictlySortedBy nat_cmp (keys_of cs) → n ≡ count_at cs d
    → counted (insert_entry nat_cmp cs d (n + 1)) limit ≡ counted cs limit + one_before d limit
counted-one_more cs d n limit up is = by (ltb d limit) (counted-put cs d (n + 1) limit up)
  where
    by : (b : Bool) → counted (insert_entry nat_cmp cs d (n + 1)) limit + cond b (count_at cs d) 0 ≡ counted cs limit + cond b (n + 1) 0
        → counted (insert_entry nat_cmp cs d (n + 1)) limit ≡ counted cs limit + cond b 1 0
    by true e = omega arith
    by false e = omega arith

pub counted-one_less : (cs : List (ℕ × ℕ)) (d n limit : ℕ) → IsStrictlySortedBy nat_cmp (keys_of cs) → n ≡ count_at cs d → 0 < n
    → counted (insert_entry nat_cmp cs d (n - 1)) limit + one_before d limit ≡ counted cs limit
counted-one_less cs d n limit up is some = by (ltb d limit) (counted-put cs d (n - 1) limit up)
  where
    by : (b : Bool) → counted (insert_entry nat_cmp cs d (n - 1)) limit + cond b (count_at cs d) 0 ≡ counted cs limit + cond b (n - 1) 0
        → counted (insert_entry nat_cmp cs d (n - 1)) limit + cond b 1 0 ≡ counted cs limit
    by true e = omega arith
    by false e = omega arith

pub counted-last_one : (cs : List (ℕ × ℕ)) (d limit : ℕ) → count_at cs d ≡ 1 → counted (remove_entry (is_at (nat_cmp d)) cs) limit + one_before d limit ≡ counted cs limit
counted-last_one cs d limit is = ap (λ n. counted (remove_entry (is_at (nat_cmp d)) cs) limit + cond (ltb d limit) n 0) (sym is) ∙ counted-remove cs d limit

-- all before the next limit are those before this one, and those at it
pub counted-next : (cs : List (ℕ × ℕ)) (d : ℕ) → IsStrictlySortedBy nat_cmp (keys_of cs) → counted cs (d + 1) ≡ counted cs d + count_at cs d
counted-next [] d up = refl
counted-next (c ∷ cs) d up = by (nat_cmp d c.0) refl (ranked d c.0 (nat_cmp d c.0) refl) (counted-next cs d (sorted_tail nat_cmp c.0 (keys_of cs) up))
  where
    by : (r : Ordering) → nat_cmp d c.0 ≡ r → MatchOrdering r (d < c.0) (d ≡ c.0) (c.0 < d) → counted cs (d + 1) ≡ counted cs d + count_at cs d
        → counted (c ∷ cs) (d + 1) ≡ counted (c ∷ cs) d + unwrap_or (cond (is_eq r) (Some c.1) (lookup (is_at (nat_cmp d)) cs)) 0
    by Less p h later =
        let next : within (d + 1) c ≡ 0 = ap (λ b. cond b c.1 0) (le-ltb c.0 (d + 1) (omega arith)) in
        let this : within d c ≡ 0 = ap (λ b. cond b c.1 0) (le-ltb c.0 d (omega arith)) in
        omega (arith, next, this, counted-cons c cs (d + 1), counted-cons c cs d)
    by Equal p h later =
        let next : within (d + 1) c ≡ c.1 = ap (λ b. cond b c.1 0) (lt-ltb c.0 (d + 1) (omega arith)) in
        let this : within d c ≡ 0 = ap (λ b. cond b c.1 0) (le-ltb c.0 d (omega arith)) in
        let apart = IsDistinct-from_sorted nat_cmp (keys_of (c ∷ cs)) up in
        let others : count_at cs d ≡ 0 = ap (λ o. unwrap_or o 0) (lookup-none (is_at (nat_cmp d)) cs (none_past_head (eq_by_cmp_equiv nat_cmp_total) d c cs apart (ap is_eq p))) in
        omega (arith, next, this, others, counted-cons c cs (d + 1), counted-cons c cs d)
    by Greater p h later =
        let next : within (d + 1) c ≡ c.1 = ap (λ b. cond b c.1 0) (lt-ltb c.0 (d + 1) (omega arith)) in
        let this : within d c ≡ c.1 = ap (λ b. cond b c.1 0) (lt-ltb c.0 d (omega arith)) in
        omega (arith, next, this, counted-cons c cs (d + 1), counted-cons c cs d)

-- where more lie before the next limit than before this one, some lie at it
pub counted-some : (cs left : List (ℕ × ℕ)) (d : ℕ) → left ≡ remove_entry (is_at (nat_cmp d)) cs → IsStrictlySortedBy nat_cmp (keys_of left) → lookup (is_at (nat_cmp d)) left ≡ None
    → counted cs d < counted cs (d + 1) → 0 < count_at cs d
counted-some cs left d is up none more =
    let nothing : count_at left d ≡ 0 = ap (λ o. unwrap_or o 0) none in
    let here : cond (ltb d (d + 1)) (count_at cs d) 0 ≡ count_at cs d = ap (λ b. cond b (count_at cs d) 0) (lt-ltb d (d + 1) (omega arith)) in
    let next : counted left (d + 1) + cond (ltb d (d + 1)) (count_at cs d) 0 ≡ counted cs (d + 1) = ap (λ l. counted l (d + 1) + cond (ltb d (d + 1)) (count_at cs d) 0) is ∙ counted-remove cs d (d + 1) in
    let this : counted left d + cond (ltb d d) (count_at cs d) 0 ≡ counted cs d = ap (λ l. counted l d + cond (ltb d d) (count_at cs d) 0) is ∙ counted-remove cs d d in
    omega (arith, nothing, here, next, this, counted-next left d up)

counted-after : (d : ℕ) (cs : List (ℕ × ℕ)) (limit : ℕ) → limit ≤ d → AllByRecursion (λ x. nat_cmp d x ≡ Less) (keys_of cs) → counted cs limit ≡ 0
counted-after d [] limit over h = refl
counted-after d (c ∷ cs) limit over h =
    let far : d < c.0 = ranked d c.0 Less (sym h.0) in
    let this : within limit c ≡ 0 = ap (λ b. cond b c.1 0) (le-ltb c.0 limit (omega arith)) in
    omega (arith, this, counted-cons c cs limit, counted-after d cs limit over h.1)

-- a limit that isn't after the first is before none of the others
pub counted-over : (c : ℕ × ℕ) (cs : List (ℕ × ℕ)) (limit : ℕ) → IsStrictlySortedBy nat_cmp (keys_of (c ∷ cs)) → limit ≤ c.0 → counted (c ∷ cs) limit ≡ 0
counted-over c cs limit up over =
    let this : within limit c ≡ 0 = ap (λ b. cond b c.1 0) (le-ltb c.0 limit over) in
    omega (arith, this, counted-cons c cs limit, counted-after c.0 cs limit over (sorted_head nat_cmp c.0 (keys_of cs) up))

-- one that is before the limit is counted, and the others
pub counted-within : (c : ℕ × ℕ) (cs : List (ℕ × ℕ)) (limit : ℕ) → c.0 < limit → counted (c ∷ cs) limit ≡ c.1 + counted cs limit
counted-within c cs limit h =
    let this : within limit c ≡ c.1 = ap (λ b. cond b c.1 0) (lt-ltb c.0 limit h) in
    omega (arith, this, counted-cons c cs limit)

-- ---- the leases of a table

abbrev due : ℕ → Key × Listed → ℕ
due limit e = one_before (deadline_of e.1) limit

pub held_before-remove : (es : List (Key × Listed)) (k : Key) (l : Listed) (limit : ℕ) → lookup (is_at (key_cmp k)) es ≡ Some l
    → held_before (remove_entry (is_at (key_cmp k)) es) limit + one_before (deadline_of l) limit ≡ held_before es limit
held_before-remove es k l limit is =
    let this : weight keys_exact (due limit) k (lookup (is_at (key_cmp k)) es) ≡ one_before (deadline_of l) limit = ap (weight keys_exact (due limit) k) is in
    omega (arith, this, sum_by-remove_entry keys_exact (due limit) es k)

pub held_before-insert : (es : List (Key × Listed)) (k : Key) (l : Listed) (limit : ℕ) → IsStrictlySortedBy key_cmp (keys_of es) → lookup (is_at (key_cmp k)) es ≡ None
    → held_before (insert_entry key_cmp es k l) limit ≡ held_before es limit + one_before (deadline_of l) limit
held_before-insert es k l limit up none =
    let this : weight keys_exact (due limit) k (lookup (is_at (key_cmp k)) es) ≡ 0 = ap (weight keys_exact (due limit) k) none in
    omega (arith, this, sum_by-insert_entry keys_exact (due limit) keys_total es k l up)

one_before-grows : (deadline limit : ℕ) → one_before deadline limit ≤ one_before deadline (limit + 1)
one_before-grows deadline limit = by (ltb deadline limit) refl
  where
    by : (b : Bool) → ltb deadline limit ≡ b → cond b 1 0 ≤ one_before deadline (limit + 1)
    by true h =
        let next : one_before deadline (limit + 1) ≡ 1 = ap (λ b. cond b 1 0) (lt-ltb deadline (limit + 1) (omega (arith, ltb-true deadline limit h))) in
        omega (arith, next)
    by false h = omega arith

pub one_before-this : (d : ℕ) → one_before d d ≡ 0
one_before-this d = ap (λ b. cond b (let one : ℕ = 1 in one) 0) (le-ltb d d (omega arith))

pub one_before-next : (d : ℕ) → one_before d (d + 1) ≡ 1
one_before-next d = ap (λ b. cond b (let one : ℕ = 1 in one) 0) (lt-ltb d (d + 1) (omega arith))

pub held_before-grows : (es : List (Key × Listed)) (limit : ℕ) → held_before es limit ≤ held_before es (limit + 1)
held_before-grows es limit = sum_by-le-sum_by (due limit) (due (limit + 1)) es (λ e. one_before-grows (deadline_of e.1) limit)

-- what is held is counted with the deadlines before the next limit
pub held_before-next : (es : List (Key × Listed)) (k : Key) (l : Listed) → lookup (is_at (key_cmp k)) es ≡ Some l → held_before es (deadline_of l) < held_before es (deadline_of l + 1)
held_before-next es k l is =
    let d = deadline_of l in
    let left = remove_entry (is_at (key_cmp k)) es in
    omega (arith, held_before-grows left d, one_before-this d, one_before-next d, held_before-remove es k l d is, held_before-remove es k l (d + 1) is)

late : (d extra t : ℕ) → ltb (d + extra) t ≡ ltb d (t - extra)
late d extra t = by (ltb d (t - extra)) refl
  where
    by : (b : Bool) → ltb d (t - extra) ≡ b → ltb (d + extra) t ≡ b
    by true h = lt-ltb (d + extra) t (omega (arith, ltb-true d (t - extra) h))
    by false h = le-ltb (d + extra) t (omega (arith, ltb-false d (t - extra) h))

-- what has expired is held before the moment, less the extra time
pub expired-held_before : (es : List (Key × Listed)) (t extra : ℕ) → length (filter (λ e. plain_expired e.1 t extra) es) ≡ held_before es (t - extra)
expired-held_before es t extra =
    length-filter (λ e. plain_expired e.1 t extra) es ∙ ap (λ (p : Key × Listed → Bool). count_by p es) (λ i e. late (deadline_of e.1) extra t i)

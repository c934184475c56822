-- Tasks under their names, in a table that keeps them in a line
use Rattle.std.proofs.Common.{◌≡◌, ℕ, ◌-◌, ◌^◌, ◌≤◌, Bool, true, false, true≢false, cond, not, ◌&&◌, ◌||◌, List, [], ◌∷◌, ◌++◌, length, map, take, drop, slice_get, IfSome, Option, Some, None, is_some, refl, sym, ap, subst, ◌∙◌, arith}
use Rattle.std.specs.Option.{option_map_or}
use Rattle.std.specs.Map.{values_of, lookup, lookup_entry, remove_entry, set_value}
use Rattle.std.proofs.lemmas.Bool.{or_parts}
use Rattle.std.proofs.lemmas.List.{take_all, map-append, length-map}
use Rattle.lru.specs.LruCache.{LruCache, demoted, put_entries}
use Rattle.eu_base.specs.declared.tasks.Task.{Task}
use Rattle.eu_model.specs.Server.{is_old, waits}
use Rattle.eu_audit_queue.specs.declared.name.Name.{Name}
use Rattle.eu_audit_queue.specs.PlainQueue.{are_apart}
use Rattle.eu_audit_queue.specs.Names.{entries_of, has_name, name_of, names_eq, without_old}
use Rattle.eu_audit_queue.proofs.NameLemmas.{for_same, map-for_same, names_same, names_refl}
use Rattle.eu_audit_queue.proofs.ApartLemmas.{apart_first, apart_rest}

abbrev Entries : Type 0
Entries = List (Name × Task)

pub values-entries : (ts : List Task) → values_of (entries_of ts) ≡ ts
values-entries [] = refl
values-entries (x ∷ xs) = ap (λ l. x ∷ l) (values-entries xs)

-- what the invariant of a line asks of its entries
pub kept : (es : Entries) (ts : List Task) → es ≡ entries_of ts → are_apart ts ≡ true → length ts ≤ 10000 → (es ≡ entries_of (values_of es)) × (are_apart (values_of es) ≡ true) × (length (values_of es) ≤ 10000)
kept es ts e apart few =
    let shown : values_of es ≡ ts = ap values_of e ∙ values-entries ts in
    (e ∙ ap entries_of (sym shown), ap are_apart shown ∙ apart, subst (λ l. length l ≤ 10000) (sym shown) few)

-- the entry of a name
pub has-lookup : (n : Name) (ts : List Task) → is_some (lookup (names_eq n) (entries_of ts)) ≡ has_name n ts
has-lookup n [] = refl
has-lookup n (x ∷ xs) = by (names_eq n (name_of x)) (has-lookup n xs)
  where
    by : (b : Bool) → is_some (lookup (names_eq n) (entries_of xs)) ≡ has_name n xs → is_some (cond b (Some x) (lookup (names_eq n) (entries_of xs))) ≡ (b || has_name n xs)
    by true r = refl
    by false r = r

no_entry : (n : Name) (ts : List Task) → has_name n ts ≡ false → lookup_entry (names_eq n) (entries_of ts) ≡ None
no_entry n [] h = refl
no_entry n (x ∷ xs) h = let p = or_parts (names_eq n (name_of x)) (has_name n xs) h in λ i. cond (p.0 i) (Some (name_of x, x)) (no_entry n xs p.1 i)

-- a task of a new name is put
pub put_new : (c : LruCache Name Task) (n : Name) (t : Task) (ts : List Task) → c.entries ≡ entries_of ts → c.cap ≡ 2 ^ 64 - 1 → n ≡ name_of t → waits t ts ≡ false → length ts ≤ 10000 → put_entries names_eq c n t ≡ entries_of (t ∷ ts)
put_new c n t ts e large named none few =
    let absent : lookup_entry (names_eq n) c.entries ≡ None = ap (lookup_entry (names_eq n)) e ∙ no_entry n ts (ap (λ m. has_name m ts) named ∙ none) in
    let room : length c.entries ≤ c.cap - 1 = omega (arith, ap length e, length-map {B = Name × Task} ts (λ task. (name_of task, task)), large) in
    ap (λ (o : Option (Name × Task)). option_map_or (λ f. (f.0, t) ∷ remove_entry (names_eq n) c.entries) o ((n, t) ∷ take (c.cap - 1) c.entries)) absent
    ∙ (λ i. (named i, t) ∷ (take_all (c.cap - 1) c.entries room ∙ e) i)

-- the first goes behind all
pub go_last : (n : Name) (t : Task) (ts : List Task) → n ≡ name_of t → demoted (names_eq n) (entries_of (t ∷ ts)) ≡ entries_of (ts ++ t ∷ [])
go_last n t ts named =
    let here : names_eq n (name_of t) ≡ true = ap (λ m. names_eq m (name_of t)) named ∙ names_refl (name_of t) in
    by (names_eq n (name_of t)) here ∙ sym (map-append (λ task. (name_of task, task)) ts (t ∷ []))
  where
    by : (b : Bool) → b ≡ true
        → option_map_or (λ e. cond b (entries_of ts) ((name_of t, t) ∷ remove_entry (names_eq n) (entries_of ts)) ++ e ∷ []) (cond b (Some (name_of t, t)) (lookup_entry (names_eq n) (entries_of ts))) (entries_of (t ∷ ts)) ≡ entries_of ts ++ (name_of t, t) ∷ []
    by true e = refl
    by false e = absurd (true≢false (sym e))

-- none of a name that is found before
others : (n : Name) (x : Task) (xs : List Task) → are_apart (x ∷ xs) ≡ true → names_eq n (name_of x) ≡ true → has_name n xs ≡ false
others n x xs apart e = ap (λ m. has_name m xs) (names_same n (name_of x) e) ∙ apart_first x xs apart

-- a task is written in the place of the one of its name
pub set-for_same : (t : Task) (ts : List Task) → are_apart ts ≡ true → set_value (names_eq (name_of t)) (entries_of ts) t ≡ entries_of (map (for_same t) ts)
set-for_same t [] apart = refl
set-for_same t (x ∷ xs) apart = by (names_eq (name_of t) (name_of x)) refl (set-for_same t xs (apart_rest x xs apart))
  where
    by : (b : Bool) → names_eq (name_of t) (name_of x) ≡ b → set_value (names_eq (name_of t)) (entries_of xs) t ≡ entries_of (map (for_same t) xs)
        → cond b ((name_of x, t) ∷ entries_of xs) ((name_of x, x) ∷ set_value (names_eq (name_of t)) (entries_of xs) t) ≡ entries_of (cond b t x ∷ map (for_same t) xs)
    by true e r = λ i. (sym (names_same (name_of t) (name_of x) e) i, t) ∷ entries_of (sym (map-for_same t xs (others (name_of t) x xs apart e)) i)
    by false e r = ap (λ l. (name_of x, x) ∷ l) r

-- ---- the task of a name is dropped where it is old

pub without-none : (m : ℕ) (n : Name) (ts : List Task) → has_name n ts ≡ false → without_old m n ts ≡ ts
without-none m n [] h = refl
without-none m n (x ∷ xs) h =
    let p = or_parts (names_eq n (name_of x)) (has_name n xs) h in
    λ i. cond (not (p.0 i && is_old m x)) (x ∷ without-none m n xs p.1 i) (without_old m n xs)

module _ (m : ℕ) (n : Name) (t : Task) where
  pub without-live : (ts : List Task) → are_apart ts ≡ true → lookup (names_eq n) (entries_of ts) ≡ Some t → is_old m t ≡ false → without_old m n ts ≡ ts
  without-live [] apart found young = refl
  without-live (x ∷ xs) apart found young = by (names_eq n (name_of x)) refl found (without-live xs (apart_rest x xs apart))
    where
      by : (b : Bool) → names_eq n (name_of x) ≡ b → cond b (Some x) (lookup (names_eq n) (entries_of xs)) ≡ Some t
          → (lookup (names_eq n) (entries_of xs) ≡ Some t → is_old m t ≡ false → without_old m n xs ≡ xs)
          → cond (not (b && is_old m x)) (x ∷ without_old m n xs) (without_old m n xs) ≡ x ∷ xs
      by true e f r =
          let same : x ≡ t = cc in
          let here : is_old m x ≡ false = ap (is_old m) same ∙ young in
          λ i. cond (not (here i)) (x ∷ without-none m n xs (others n x xs apart e) i) (without_old m n xs)
      by false e f r = ap (λ l. x ∷ l) (r f young)

  pub without-old : (ts : List Task) → are_apart ts ≡ true → lookup (names_eq n) (entries_of ts) ≡ Some t → is_old m t ≡ true → remove_entry (names_eq n) (entries_of ts) ≡ entries_of (without_old m n ts)
  without-old [] apart found old = refl
  without-old (x ∷ xs) apart found old = by (names_eq n (name_of x)) refl found (without-old xs (apart_rest x xs apart))
    where
      by : (b : Bool) → names_eq n (name_of x) ≡ b → cond b (Some x) (lookup (names_eq n) (entries_of xs)) ≡ Some t
          → (lookup (names_eq n) (entries_of xs) ≡ Some t → is_old m t ≡ true → remove_entry (names_eq n) (entries_of xs) ≡ entries_of (without_old m n xs))
          → cond b (entries_of xs) ((name_of x, x) ∷ remove_entry (names_eq n) (entries_of xs)) ≡ entries_of (cond (not (b && is_old m x)) (x ∷ without_old m n xs) (without_old m n xs))
      by true e f r =
          let same : x ≡ t = cc in
          let here : is_old m x ≡ true = ap (is_old m) same ∙ old in
          ap entries_of (sym (without-none m n xs (others n x xs apart e))) ∙ ap (λ b. entries_of (cond (not b) (x ∷ without_old m n xs) (without_old m n xs))) (sym here)
      by false e f r = ap (λ l. (name_of x, x) ∷ l) (r f old)

-- none of the others has the name of the first
pub first_apart : (es : Entries) → es ≡ entries_of (values_of es) → are_apart (values_of es) ≡ true → IfSome (slice_get es 0) (λ first. has_name first.0 (values_of (drop 1 es)) ≡ false)
first_apart [] under apart = tt
first_apart (e ∷ es) under apart =
    let same : e ≡ (name_of e.1, e.1) = cc in
    ap (λ first. has_name first.0 (values_of es)) same ∙ apart_first e.1 (values_of es) apart

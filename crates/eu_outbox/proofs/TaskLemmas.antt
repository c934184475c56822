-- Tasks in a line, of which no two have one name
use Rattle.std.proofs.Common.{◌≡◌, ℕ, zero, suc, ◌+◌, ◌-◌, ◌<◌, ◌≤◌, Bool, true, false, true≢false, cond, not, ◌&&◌, ◌||◌, List, [], ◌∷◌, ◌++◌, length, map, filter, take, drop, reverse, if◌then◌else◌, refl, sym, ap, ◌∙◌, arith}
use Rattle.std.specs.Prelude.{option_to_list, slice_get}
use Rattle.std.specs.List.{list_any}
use Rattle.std.proofs.lemmas.List.{append_assoc, length-map, length-append, map-append}
use Rattle.std.proofs.lemmas.List.Elements.{filter-append}
use Rattle.std.proofs.lemmas.List.Folds.{list_any-append}
use Rattle.std.proofs.Math.Seq.{take-append-add}
use Rattle.std.proofs.lemmas.Bool.Decides.{nat_tests}
use Rattle.std.specs.Prelude.{◌==◌, Option, Some, None}
use Rattle.eu_base.specs.declared.faults.Fault.{Fault}
use Rattle.eu_base.specs.declared.faults.Fault.TheVariants.{Busy, EmptyBatch}
use Rattle.eu_base.specs.declared.tasks.Task.{Task}
use Rattle.eu_base.specs.declared.tasks.TaskName.{TaskName}
use Rattle.eu_base.specs.Values.{is_action, same_name, key_eq}
use Rattle.eu_model.specs.declared.queues.Queue.{Queue}
use Rattle.eu_model.specs.Server.{waits, is_old, live, bounded, put, drain_fault}
use Rattle.eu_outbox.specs.Steps.{IsApart, gave, gave_all, named, placed}
use Rattle.eu_outbox.proofs.NameLemmas.{first_false, second_false, name_of, same_named, same_name-flips, reverse-push, list_any-reverse, map-reverse}

-- a name decides what waits
waits-named : (a b : Task) (ts : List Task) → name_of a ≡ name_of b → waits a ts ≡ waits b ts
waits-named a b ts e = ap (λ (n : TaskName). list_any (named n) ts) e

same-named : (x a b : Task) → name_of a ≡ name_of b → same_name x a ≡ same_name x b
same-named x a b e = ap (λ (n : TaskName). is_action x.action n.action && key_eq x.key n.key) e

pub waits-filter : (t : Task) (p : Task → Bool) (ts : List Task) → waits t ts ≡ false → waits t (filter p ts) ≡ false
waits-filter t p [] h = refl
waits-filter t p (x ∷ xs) h = by (p x) (waits-filter t p xs (second_false (same_name t x) (waits t xs) h))
  where
    by : (b : Bool) → waits t (filter p xs) ≡ false → waits t (cond b (x ∷ filter p xs) (filter p xs)) ≡ false
    by true r = ap (λ c. c || waits t (filter p xs)) (first_false (same_name t x) (waits t xs) h) ∙ r
    by false r = r

pub IsApart-filter : (p : Task → Bool) (ts : List Task) → IsApart ts → IsApart (filter p ts)
IsApart-filter p [] h = tt
IsApart-filter p (x ∷ xs) h = by (p x) (IsApart-filter p xs h.1)
  where
    by : (b : Bool) → IsApart (filter p xs) → IsApart (cond b (x ∷ filter p xs) (filter p xs))
    by true r = (waits-filter x p xs h.0, r)
    by false r = r

waits-take : (t : Task) (n : ℕ) (ts : List Task) → waits t ts ≡ false → waits t (take n ts) ≡ false
waits-take t zero ts h = refl
waits-take t (suc n) [] h = refl
waits-take t (suc n) (x ∷ xs) h =
    ap (λ c. c || waits t (take n xs)) (first_false (same_name t x) (waits t xs) h) ∙ waits-take t n xs (second_false (same_name t x) (waits t xs) h)

pub IsApart-take : (n : ℕ) (ts : List Task) → IsApart ts → IsApart (take n ts)
IsApart-take zero ts h = tt
IsApart-take (suc n) [] h = tt
IsApart-take (suc n) (x ∷ xs) h = (waits-take x n xs h.0, IsApart-take n xs h.1)

pub IsApart-push : (ts : List Task) (t : Task) → IsApart ts → waits t ts ≡ false → IsApart (ts ++ t ∷ [])
IsApart-push [] t h w = (refl, tt)
IsApart-push (x ∷ xs) t h w =
    let apart : same_name x t ≡ false = same_name-flips x t ∙ first_false (same_name t x) (waits t xs) w in
    (list_any-append (same_name x) xs (t ∷ []) ∙ (λ i. h.0 i || (apart i || false)), IsApart-push xs t h.1 (second_false (same_name t x) (waits t xs) w))

-- a task of the front is none of the rest
pub IsApart-cross : (xs ys : List Task) (t : Task) → IsApart (xs ++ ys) → waits t xs ≡ true → waits t ys ≡ false
IsApart-cross [] ys t h w = absurd (true≢false (sym w))
IsApart-cross (x ∷ xs) ys t h w = by (same_name t x) refl (IsApart-cross xs ys t h.1)
  where
    none : waits x ys ≡ false
    none = second_false (waits x xs) (waits x ys) (sym (list_any-append (same_name x) xs ys) ∙ h.0)

    by : (b : Bool) → same_name t x ≡ b → (waits t xs ≡ true → waits t ys ≡ false) → waits t ys ≡ false
    by true e rest = waits-named t x ys (same_named t x e) ∙ none
    by false e rest = rest (sym (ap (λ c. c || waits t xs) e) ∙ w)

-- the task in the place of another of its name
abbrev pub for_another : Task → Task → Task
for_another t other = if same_name t other then t else other

name_of-for : (t y : Task) → name_of (for_another t y) ≡ name_of y
name_of-for t y = by (same_name t y) refl
  where
    by : (b : Bool) → same_name t y ≡ b → name_of (cond b t y) ≡ name_of y
    by true e = same_named t y e
    by false e = refl

waits-for : (x t : Task) (ts : List Task) → waits x (map (for_another t) ts) ≡ waits x ts
waits-for x t [] = refl
waits-for x t (y ∷ ys) = λ i. same-named x (for_another t y) y (name_of-for t y) i || waits-for x t ys i

IsApart-for : (t : Task) (ts : List Task) → IsApart ts → IsApart (map (for_another t) ts)
IsApart-for t [] h = tt
IsApart-for t (y ∷ ys) h = (waits-named (for_another t y) y (map (for_another t) ys) (name_of-for t y) ∙ waits-for y t ys ∙ h.0, IsApart-for t ys h.1)

pub for-none : (t : Task) (ts : List Task) → waits t ts ≡ false → map (for_another t) ts ≡ ts
for-none t [] h = refl
for-none t (x ∷ xs) h = λ i. cond (first_false (same_name t x) (waits t xs) h i) t x ∷ for-none t xs (second_false (same_name t x) (waits t xs) h) i

pub IsApart-placed : (t : Task) (ts : List Task) → IsApart ts → IsApart (placed t ts)
IsApart-placed t ts h = by (waits t ts) refl
  where
    by : (b : Bool) → waits t ts ≡ b → IsApart (cond b (map (for_another t) ts) (ts ++ t ∷ []))
    by true e = IsApart-for t ts h
    by false e = IsApart-push ts t h e

-- a task that is none of the front is placed in the rest
pub placed-right : (t : Task) (xs ys : List Task) → waits t xs ≡ false → xs ++ placed t ys ≡ placed t (xs ++ ys)
placed-right t xs ys h = by (waits t ys) refl ∙ ap (λ b. cond b (map (for_another t) (xs ++ ys)) ((xs ++ ys) ++ t ∷ [])) (sym both)
  where
    both : waits t (xs ++ ys) ≡ waits t ys
    both = list_any-append (same_name t) xs ys ∙ ap (λ b. b || waits t ys) h

    by : (b : Bool) → waits t ys ≡ b → xs ++ placed t ys ≡ cond (waits t ys) (map (for_another t) (xs ++ ys)) ((xs ++ ys) ++ t ∷ [])
    by true e = ap (λ c. xs ++ cond c (map (for_another t) ys) (ys ++ t ∷ [])) e ∙ ap (λ l. l ++ map (for_another t) ys) (sym (for-none t xs h)) ∙ sym (map-append (for_another t) xs ys) ∙ ap (λ c. cond c (map (for_another t) (xs ++ ys)) ((xs ++ ys) ++ t ∷ [])) (sym e)
    by false e = ap (λ c. xs ++ cond c (map (for_another t) ys) (ys ++ t ∷ [])) e ∙ sym (append_assoc xs ys (t ∷ [])) ∙ ap (λ c. cond c (map (for_another t) (xs ++ ys)) ((xs ++ ys) ++ t ∷ [])) (sym e)

-- one of the front, which stands last to first, is placed there
pub placed-left : (t : Task) (xs ys : List Task) → waits t xs ≡ true → waits t ys ≡ false → reverse (placed t xs) ++ ys ≡ placed t (reverse xs ++ ys)
placed-left t xs ys h none =
    let there : waits t (reverse xs ++ ys) ≡ true = list_any-append (same_name t) (reverse xs) ys ∙ ap (λ b. b || waits t ys) (list_any-reverse (same_name t) xs ∙ h) in
    ap (λ b. reverse (cond b (map (for_another t) xs) (xs ++ t ∷ [])) ++ ys) h
    ∙ (λ i. sym (map-reverse (for_another t) xs) i ++ sym (for-none t ys none) i)
    ∙ sym (map-append (for_another t) (reverse xs) ys)
    ∙ ap (λ b. cond b (map (for_another t) (reverse xs ++ ys)) ((reverse xs ++ ys) ++ t ∷ [])) (sym there)

-- a new one goes before the front
pub placed-before : (t : Task) (xs ys : List Task) → waits t xs ≡ false → reverse (placed t xs) ++ ys ≡ t ∷ (reverse xs ++ ys)
placed-before t xs ys h =
    ap (λ b. reverse (cond b (map (for_another t) xs) (xs ++ t ∷ [])) ++ ys) h ∙ ap (λ l. l ++ ys) (reverse-push xs t)

pub bounded-few : (ts : List Task) → length ts ≤ 10000 → bounded ts ≡ ts
bounded-few ts h = let none : length ts - 10000 ≡ 0 = omega arith in ap (λ n. drop n ts) none

-- what is put is placed, and then the first dropped
pub bounded-placed : (t : Task) (ts : List Task) → length ts ≤ 10000 → bounded (placed t ts) ≡ put t ts
bounded-placed t ts h = by (waits t ts)
  where
    by : (b : Bool) → bounded (cond b (map (for_another t) ts) (ts ++ t ∷ [])) ≡ cond b (map (for_another t) ts) (bounded (ts ++ t ∷ []))
    by true = bounded-few (map (for_another t) ts) (omega (arith, h, length-map ts (for_another t)))
    by false = refl

-- one in the place of another: none is dropped
pub put-there : (t : Task) (ts : List Task) → waits t ts ≡ true → placed t ts ≡ put t ts
put-there t ts h = ap (λ b. cond b (map (for_another t) ts) (ts ++ t ∷ [])) h ∙ sym (ap (λ b. cond b (map (for_another t) ts) (bounded (ts ++ t ∷ []))) h)

-- the first is dropped while too many wait
pub bounded-step : (x : Task) (xs : List Task) → 10000 < length (x ∷ xs) → bounded (x ∷ xs) ≡ bounded xs
bounded-step x xs h = let less : length (x ∷ xs) - 10000 ≡ suc (length xs - 10000) = omega arith in ap (λ n. drop n (x ∷ xs)) less

pub bounded-drop : (ts : List Task) → 10000 < length ts → bounded (drop 1 ts) ≡ bounded ts
bounded-drop [] h = absurd (omega arith)
bounded-drop (x ∷ xs) h = sym (bounded-step x xs h)

pub gave_all-push : (t : ℕ) (xs : List Task) (x : Task) (ts : List Task) → gave_all t (xs ++ x ∷ []) ts ≡ gave_all t xs (gave t x ts)
gave_all-push t [] x ts = refl
gave_all-push t (y ∷ ys) x ts = ap (gave t y) (gave_all-push t ys x ts)

-- those of the front that come back
abbrev pub returning : ℕ → List Task → List Task → List Task
returning t front ts = filter (λ task. not (waits task ts)) (live t front)

-- of tasks that have different names, each comes back by what waited at first
pub gave_all-returning : (t : ℕ) (front ts : List Task) → IsApart front → gave_all t front ts ≡ returning t front ts ++ ts
gave_all-returning t [] ts h = refl
gave_all-returning t (x ∷ xs) ts h =
    ap (gave t x) (gave_all-returning t xs ts h.1) ∙ ap (λ b. cond (is_old t x || b) (returning t xs ts ++ ts) (x ∷ (returning t xs ts ++ ts))) waiting ∙ by (is_old t x) (waits x ts) refl
  where
    others : waits x (returning t xs ts) ≡ false
    others = waits-filter x (λ task. not (waits task ts)) (live t xs) (waits-filter x (λ task. not (is_old t task)) xs h.0)

    waiting : waits x (returning t xs ts ++ ts) ≡ waits x ts
    waiting = list_any-append (same_name x) (returning t xs ts) ts ∙ ap (λ b. b || waits x ts) others

    by : (old there : Bool) → waits x ts ≡ there → cond (old || there) (returning t xs ts ++ ts) (x ∷ (returning t xs ts ++ ts)) ≡ filter (λ task. not (waits task ts)) (cond (not old) (x ∷ live t xs) (live t xs)) ++ ts
    by true there e = refl
    by false true e = ap (λ b. cond (not b) (x ∷ returning t xs ts) (returning t xs ts) ++ ts) (sym e)
    by false false e = ap (λ b. cond (not b) (x ∷ returning t xs ts) (returning t xs ts) ++ ts) (sym e)

-- the tasks from a place on: the one there, and the others
pub live-next : (t : ℕ) (i : ℕ) (ts : List Task) → live t (drop i ts) ≡ live t (take 1 (drop i ts)) ++ live t (drop (i + 1) ts)
live-next t zero [] = refl
live-next t zero (x ∷ xs) = filter-append (λ task. not (is_old t task)) (x ∷ []) xs
live-next t (suc i) [] = let none : List Task = [] in ap (λ n. live t (drop n none)) (let e : suc (i + 1) ≡ suc i + 1 = omega arith in e)
live-next t (suc i) (y ∷ ys) = live-next t i ys ∙ ap (λ n. live t (take 1 (drop i ys)) ++ live t (drop n (y ∷ ys))) (let e : suc (i + 1) ≡ suc i + 1 = omega arith in e)

-- none of them is left out
pub live-none : (t : ℕ) (i : ℕ) (ts : List Task) → live t (take 1 (drop i ts)) ≡ [] → live t (drop i ts) ≡ live t ts → live t (drop (i + 1) ts) ≡ live t ts
live-none t i ts none whole = sym (ap (λ l. l ++ live t (drop (i + 1) ts)) none) ∙ sym (live-next t i ts) ∙ whole

-- one that is not too old
pub live-one : (t : ℕ) (x : Task) (b : Bool) → is_old t x ≡ b → live t (x ∷ []) ≡ cond b [] (x ∷ [])
live-one t x true e = ap (λ b. cond (not b) (x ∷ []) []) e
live-one t x false e = ap (λ b. cond (not b) (x ∷ []) []) e

-- a batch with one more of them
pub batch-step : (n : ℕ) (bs as2 rest : List Task) → length bs + length as2 ≤ n → bs ++ take (n - length bs) (as2 ++ rest) ≡ (bs ++ as2) ++ take (n - length (bs ++ as2)) rest
batch-step n bs as2 rest h =
    let left : n - length bs ≡ length as2 + (n - length (bs ++ as2)) = omega (arith, length-append bs as2) in
    ap (λ k. bs ++ take k (as2 ++ rest)) left
    ∙ ap (λ l. bs ++ l) (take-append-add as2 rest (n - length (bs ++ as2)))
    ∙ sym (append_assoc bs as2 (take (n - length (bs ++ as2)) rest))

pub length-live_one : (t : ℕ) (i : ℕ) (ts : List Task) → length (live t (take 1 (drop i ts))) ≤ 1
length-live_one t i ts = by (drop i ts)
  where
    one : (x : Task) (b : Bool) → length (cond b (x ∷ []) []) ≤ 1
    one x true = omega arith
    one x false = omega arith

    by : (rest : List Task) → length (live t (take 1 rest)) ≤ 1
    by [] = omega arith
    by (x ∷ xs) = one x (not (is_old t x))

pub length-live : (t : ℕ) (ts : List Task) → length (live t ts) ≤ length ts
length-live t [] = omega arith
length-live t (x ∷ xs) = by (not (is_old t x)) (length-live t xs)
  where
    by : (b : Bool) → length (live t xs) ≤ length xs → length (cond b (x ∷ live t xs) (live t xs)) ≤ length (x ∷ xs)
    by true h = omega arith
    by false h = omega arith

-- ---- copies of all

pub take-next : {A : Type 0} (n : ℕ) (xs : List A) → take n xs ++ option_to_list (slice_get xs n) ≡ take (suc n) xs
take-next zero [] = refl
take-next zero (x ∷ xs) = refl
take-next (suc n) [] = refl
take-next (suc n) (x ∷ xs) = ap (λ l. x ∷ l) (take-next n xs)

-- where nothing keeps a batch from going in flight, none is
pub nothing_flies : (t : ℕ) (q : Queue) → drain_fault t q ≡ None → length q.flight ≡ 0
nothing_flies t q none = by (length q.flight == 0) refl none
  where
    rest : Option Fault
    rest = if length (live t q.waiting) == 0 then Some EmptyBatch else None

    by : (b : Bool) → (length q.flight == 0) ≡ b → cond (not b) (Some Busy) rest ≡ None → length q.flight ≡ 0
    by true e n = grind (arith, nat_tests, e)
    by false e n = cc

-- Tasks of which no two have one name
use Rattle.std.proofs.Common.{◌≡◌, ℕ, zero, suc, ◌+◌, ◌<◌, ◌≤◌, Bool, true, false, true≢false, cond, not, ◌&&◌, ◌||◌, List, [], ◌∷◌, ◌++◌, length, map, filter, take, drop, get_or, refl, sym, ap, ◌∙◌}
use Rattle.std.proofs.lemmas.Bool.{and_parts, and_from, or_parts, or_from, not-true, not_from_false, false_from_ne_true}
use Rattle.std.proofs.lemmas.List.{drop-append-le, take_more}
use Rattle.std.proofs.lemmas.List.Folds.{list_any-append}
use Rattle.eu_base.specs.declared.tasks.Task.{Task}
use Rattle.eu_base.specs.Values.{same_name}
use Rattle.eu_model.specs.Server.{waits}
use Rattle.eu_audit_queue.specs.PlainQueue.{are_apart}
use Rattle.eu_audit_queue.specs.Names.{name_of, has_name}
use Rattle.eu_audit_queue.proofs.NameLemmas.{for_same, has_name-for_same, name-for_same, same_name-flips}

-- what `are_apart` says of the first, and of the others
pub apart_first : (x : Task) (xs : List Task) → are_apart (x ∷ xs) ≡ true → waits x xs ≡ false
apart_first x xs h = not-true (waits x xs) (and_parts (not (waits x xs)) (are_apart xs) h).0

pub apart_rest : (x : Task) (xs : List Task) → are_apart (x ∷ xs) ≡ true → are_apart xs ≡ true
apart_rest x xs h = (and_parts (not (waits x xs)) (are_apart xs) h).1

pub apart_cons : (x : Task) (xs : List Task) → waits x xs ≡ false → are_apart xs ≡ true → are_apart (x ∷ xs) ≡ true
apart_cons x xs none h = and_from (not (waits x xs)) (are_apart xs) (not_from_false (waits x xs) none) h

waits_push : (x t : Task) (xs : List Task) → waits x (xs ++ t ∷ []) ≡ (waits x xs || (same_name x t || false))
waits_push x t xs = list_any-append (same_name x) xs (t ∷ [])

-- one more at the end: of a name that is new, or of one that is there
pub apart_push : (ts : List Task) (t : Task) → are_apart ts ≡ true → waits t ts ≡ false → are_apart (ts ++ t ∷ []) ≡ true
apart_push [] t h none = refl
apart_push (x ∷ xs) t h none =
    let p = or_parts (same_name t x) (waits t xs) none in
    let other : (waits x xs || (same_name x t || false)) ≡ false = λ i. apart_first x xs h i || ((same_name-flips x t ∙ p.0) i || false) in
    apart_cons x (xs ++ t ∷ []) (waits_push x t xs ∙ other) (apart_push xs t (apart_rest x xs h) p.1)

pub not_apart_push : (ts : List Task) (t : Task) → waits t ts ≡ true → are_apart (ts ++ t ∷ []) ≡ false
not_apart_push [] t there = absurd (true≢false (sym there))
not_apart_push (x ∷ xs) t there = by (same_name t x) refl there (not_apart_push xs t)
  where
    same : (a : Bool) → (a || (true || false)) ≡ true
    same true = refl
    same false = refl

    last : (a : Bool) → (a && false) ≡ false
    last true = refl
    last false = refl

    by : (b : Bool) → same_name t x ≡ b → (b || waits t xs) ≡ true → (waits t xs ≡ true → are_apart (xs ++ t ∷ []) ≡ false) → are_apart (x ∷ (xs ++ t ∷ [])) ≡ false
    by true e w rest =
        let found : waits x (xs ++ t ∷ []) ≡ true = waits_push x t xs ∙ ap (λ c. waits x xs || (c || false)) (same_name-flips x t ∙ e) ∙ same (waits x xs) in
        ap (λ c. not c && are_apart (xs ++ t ∷ [])) found
    by false e w rest = ap (λ c. not (waits x (xs ++ t ∷ [])) && c) (rest w) ∙ last (not (waits x (xs ++ t ∷ [])))

-- some of them
waits_filter : (t : Task) (p : Task → Bool) (ts : List Task) → waits t ts ≡ false → waits t (filter p ts) ≡ false
waits_filter t p [] h = refl
waits_filter t p (x ∷ xs) h = by (p x) (or_parts (same_name t x) (waits t xs) h).0 (waits_filter t p xs (or_parts (same_name t x) (waits t xs) h).1)
  where
    by : (b : Bool) → same_name t x ≡ false → waits t (filter p xs) ≡ false → waits t (cond b (x ∷ filter p xs) (filter p xs)) ≡ false
    by true e r = or_from (same_name t x) (waits t (filter p xs)) e r
    by false e r = r

pub apart_filter : (p : Task → Bool) (ts : List Task) → are_apart ts ≡ true → are_apart (filter p ts) ≡ true
apart_filter p [] h = refl
apart_filter p (x ∷ xs) h = by (p x) (apart_filter p xs (apart_rest x xs h))
  where
    by : (b : Bool) → are_apart (filter p xs) ≡ true → are_apart (cond b (x ∷ filter p xs) (filter p xs)) ≡ true
    by true r = apart_cons x (filter p xs) (waits_filter x p xs (apart_first x xs h)) r
    by false r = r

pub apart_drop : (n : ℕ) (ts : List Task) → are_apart ts ≡ true → are_apart (drop n ts) ≡ true
apart_drop zero ts h = h
apart_drop (suc n) [] h = refl
apart_drop (suc n) (x ∷ xs) h = apart_drop n xs (apart_rest x xs h)

waits_take : (t : Task) (n : ℕ) (ts : List Task) → waits t ts ≡ false → waits t (take n ts) ≡ false
waits_take t zero ts h = refl
waits_take t (suc n) [] h = refl
waits_take t (suc n) (x ∷ xs) h = let p = or_parts (same_name t x) (waits t xs) h in or_from (same_name t x) (waits t (take n xs)) p.0 (waits_take t n xs p.1)

pub apart_take : (n : ℕ) (ts : List Task) → are_apart ts ≡ true → are_apart (take n ts) ≡ true
apart_take zero ts h = refl
apart_take (suc n) [] h = refl
apart_take (suc n) (x ∷ xs) h = apart_cons x (take n xs) (waits_take x n xs (apart_first x xs h)) (apart_take n xs (apart_rest x xs h))

-- those of whose name none waits, before those that wait
pub apart_before : (ts waiting : List Task) → are_apart ts ≡ true → are_apart waiting ≡ true → are_apart (filter (λ t. not (waits t waiting)) ts ++ waiting) ≡ true
apart_before [] waiting h w = w
apart_before (x ∷ xs) waiting h w = by (waits x waiting) refl (apart_before xs waiting (apart_rest x xs h) w)
  where
    rest : List Task
    rest = filter (λ t. not (waits t waiting)) xs

    by : (b : Bool) → waits x waiting ≡ b → are_apart (rest ++ waiting) ≡ true → are_apart (cond (not b) (x ∷ rest) rest ++ waiting) ≡ true
    by true e r = r
    by false e r =
        apart_cons x (rest ++ waiting)
        (list_any-append (same_name x) rest waiting ∙ or_from (waits x rest) (waits x waiting) (waits_filter x (λ t. not (waits t waiting)) xs (apart_first x xs h)) e) r

-- and but for the first of those
pub apart_back : (n : ℕ) (ts waiting : List Task) → n ≤ length (filter (λ t. not (waits t waiting)) ts) → are_apart ts ≡ true → are_apart waiting ≡ true → are_apart (drop n (filter (λ t. not (waits t waiting)) ts) ++ waiting) ≡ true
apart_back n ts waiting few h w =
    let back = filter (λ t. not (waits t waiting)) ts in
    ap are_apart (sym (drop-append-le n back waiting few)) ∙ apart_drop n (back ++ waiting) (apart_before ts waiting h w)

-- the last of them
pub apart_last : (xs ys : List Task) → are_apart (xs ++ ys) ≡ true → are_apart ys ≡ true
apart_last [] ys h = h
apart_last (x ∷ xs) ys h = apart_last xs ys (apart_rest x (xs ++ ys) h)

-- a task in the place of the one of its name
pub apart_for : (t : Task) (ts : List Task) → are_apart (map (for_same t) ts) ≡ are_apart ts
apart_for t [] = refl
apart_for t (x ∷ xs) =
    let still : waits (for_same t x) (map (for_same t) xs) ≡ waits x xs = has_name-for_same (name_of (for_same t x)) t xs ∙ ap (λ n. has_name n xs) (name-for_same t x) in
    λ i. not (still i) && apart_for t xs i

-- ---- the first of a list, and the next

pub one_more : {X : Type 0} (xs : List X) (i : ℕ) (x : X) → i < length xs → x ≡ get_or xs i x → take (i + 1) xs ≡ take i xs ++ x ∷ []
one_more xs i x below here = take_more xs i x below ∙ ap (λ y. take i xs ++ y ∷ []) (sym here)

-- one of whose name one stands before it
pub not_apart : (ts : List Task) (i : ℕ) (x : Task) → i < length ts → x ≡ get_or ts i x → waits x (take i ts) ≡ true → are_apart ts ≡ false
not_apart ts i x below here there =
    false_from_ne_true (are_apart ts) (λ h. true≢false (sym (apart_take (i + 1) ts h) ∙ ap are_apart (one_more ts i x below here) ∙ not_apart_push (take i ts) x there))

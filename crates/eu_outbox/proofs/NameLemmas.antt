-- Names of tasks, and tests on lists
use Rattle.std.proofs.Common.{◌≡◌, ℕ, zero, suc, Bool, true, false, true≢false, cond, ◌&&◌, ◌||◌, List, [], ◌∷◌, ◌++◌, map, filter, reverse, refl, sym, ap, ◌∙◌, arith}
use Rattle.std.specs.List.{list_any}
use Rattle.std.proofs.lemmas.Bool.Decides.{nat_tests}
use Rattle.std.proofs.lemmas.Cmp.{nat_eq_equiv}
use Rattle.std.proofs.lemmas.List.{append-nil, map-append, reverse-append}
use Rattle.std.proofs.lemmas.List.Elements.{filter-append}
use Rattle.std.proofs.lemmas.List.Sorted.{list_any-IsPermutation, IsPermutation-reverse}
use Rattle.eu_base.specs.declared.names.Key.{Key}
use Rattle.eu_base.specs.declared.tasks.Action.{Action}
use Rattle.eu_base.specs.declared.tasks.Action.TheVariants.{Register, Heartbeat, Cancel, StatusUpdate, DeleteStatusOverride}
use Rattle.eu_base.specs.declared.tasks.Task.{Task}
use Rattle.eu_base.specs.declared.tasks.TaskName.{TaskName}
use Rattle.eu_base.specs.Values.{place_of_action, is_action, same_name, key_cmp, key_eq}
use Rattle.eu_base.proofs.KeyLemmas.{equal_of_test, keys_exact, key_eq-ties, key_eq-flips}

pub first_true : (a b : Bool) → (a && b) ≡ true → a ≡ true
first_true true b h = refl
first_true false b h = h

pub second_true : (a b : Bool) → (a && b) ≡ true → b ≡ true
second_true true b h = h
second_true false b h = absurd (true≢false (sym h))

pub first_false : (a b : Bool) → (a || b) ≡ false → a ≡ false
first_false true b h = h
first_false false b h = refl

pub second_false : (a b : Bool) → (a || b) ≡ false → b ≡ false
second_false true b h = absurd (true≢false h)
second_false false b h = h

-- actions with one place are one action
action_at : ℕ → Action
action_at zero = Register
action_at (suc zero) = Heartbeat
action_at (suc (suc zero)) = Cancel
action_at (suc (suc (suc zero))) = StatusUpdate
action_at (suc (suc (suc (suc n)))) = DeleteStatusOverride

at_its_place : (a : Action) → action_at (place_of_action a) ≡ a
unfolding action_at
at_its_place Register = refl
at_its_place Heartbeat = refl
at_its_place Cancel = refl
at_its_place StatusUpdate = refl
at_its_place DeleteStatusOverride = refl

pub same_action : (a b : Action) → is_action a b ≡ true → a ≡ b
same_action a b h =
    let e : place_of_action a ≡ place_of_action b = grind (arith, nat_tests, h) in
    sym (at_its_place a) ∙ ap action_at e ∙ at_its_place b

pub same_key : (a b : Key) → key_eq a b ≡ true → a ≡ b
same_key a b h = keys_exact a b (equal_of_test (key_cmp a b) (sym (key_eq-ties a b) ∙ h))

-- the name of a task
abbrev pub name_of : Task → TaskName
name_of task = record { action = task.action; key = task.key }

-- tasks with one name
pub same_named : (a b : Task) → same_name a b ≡ true → name_of a ≡ name_of b
same_named a b h =
    let action = same_action a.action b.action (first_true (is_action a.action b.action) (key_eq a.key b.key) h) in
    let key = same_key a.key b.key (second_true (is_action a.action b.action) (key_eq a.key b.key) h) in
    λ i. record { action = action i; key = key i }

pub same_name-flips : (a b : Task) → same_name a b ≡ same_name b a
same_name-flips a b = λ i. nat_eq_equiv.symm (place_of_action a.action) (place_of_action b.action) i && key_eq-flips a.key b.key i

module _ {X : Type 0} where
  pub reverse-cons : (x : X) (xs : List X) → reverse (x ∷ xs) ≡ reverse xs ++ x ∷ []
  reverse-cons x xs = reverse-append (x ∷ []) xs

  pub reverse-push : (xs : List X) (x : X) → reverse (xs ++ x ∷ []) ≡ x ∷ reverse xs
  reverse-push xs x = reverse-append xs (x ∷ [])

  pub list_any-reverse : (p : X → Bool) (xs : List X) → list_any p (reverse xs) ≡ list_any p xs
  list_any-reverse p xs = sym (list_any-IsPermutation p xs (reverse xs) (IsPermutation-reverse xs))

  pub map-reverse : {Y : Type 0} (f : X → Y) (xs : List X) → map f (reverse xs) ≡ reverse (map f xs)
  map-reverse f [] = refl
  map-reverse f (x ∷ xs) = ap (map f) (reverse-cons x xs) ∙ map-append f (reverse xs) (x ∷ []) ∙ ap (λ l. l ++ f x ∷ []) (map-reverse f xs) ∙ sym (reverse-append (f x ∷ []) (map f xs))

  pub filter-reverse : (p : X → Bool) (xs : List X) → filter p (reverse xs) ≡ reverse (filter p xs)
  filter-reverse p [] = refl
  filter-reverse p (x ∷ xs) = ap (filter p) (reverse-cons x xs) ∙ filter-append p (reverse xs) (x ∷ []) ∙ ap (λ l. l ++ filter p (x ∷ [])) (filter-reverse p xs) ∙ by (p x)
    where
      by : (b : Bool) → reverse (filter p xs) ++ cond b (x ∷ []) [] ≡ reverse (cond b (x ∷ filter p xs) (filter p xs))
      by true = sym (reverse-append (x ∷ []) (filter p xs))
      by false = append-nil (reverse (filter p xs))

  -- a filter by what f gives
  pub map-filter : {Y : Type 0} (f : X → Y) (p : Y → Bool) (xs : List X) → map f (filter (λ x. p (f x)) xs) ≡ filter p (map f xs)
  map-filter f p [] = refl
  map-filter f p (x ∷ xs) = by (p (f x)) (map-filter f p xs)
    where
      by : (b : Bool) → map f (filter (λ y. p (f y)) xs) ≡ filter p (map f xs) → map f (cond b (x ∷ filter (λ y. p (f y)) xs) (filter (λ y. p (f y)) xs)) ≡ cond b (f x ∷ filter p (map f xs)) (filter p (map f xs))
      by true e = ap (λ l. f x ∷ l) e
      by false e = e

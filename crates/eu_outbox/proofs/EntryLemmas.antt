-- Entries of a map, and the tasks that they stand for
use Rattle.std.proofs.Common.{◌≡◌, ℕ, zero, suc, ◌+◌, ◌≤◌, Bool, true, false, true≢false, cond, not, ◌&&◌, ◌||◌, List, [], ◌∷◌, ◌++◌, length, map, take, drop, slice_get, reverse, Option, Some, None, is_some, option_to_list, Result, Ok, OnOk, refl, sym, ap, subst, ◌∙◌, arith}
use Rattle.std.specs.List.{list_any, IsDistinct, AllByRecursion}
use Rattle.std.specs.Map.{lookup, keys_of}
use Rattle.std.specs.Option.{option_map}
use Rattle.std.proofs.lemmas.List.{append-nil, reverse-reverse}
use Rattle.std.proofs.lemmas.List.Elements.{filter-append}
use Rattle.std.proofs.lemmas.List.Folds.{list_any-append}
use Rattle.std.proofs.lemmas.Map.Keys.{IsDistinct-head, IsDistinct-tail}
use Rattle.indexmap.specs.IndexMap.{insert_entry}
use Rattle.eu_base.specs.declared.tasks.Action.{Action}
use Rattle.eu_base.specs.declared.tasks.Action.TheVariants.{Register, Heartbeat, Cancel, StatusUpdate, DeleteStatusOverride}
use Rattle.eu_base.specs.declared.tasks.Task.{Task}
use Rattle.eu_base.specs.declared.tasks.TaskName.{TaskName}
use Rattle.eu_base.specs.contracts.tasks.TaskNamePartialEq.TheImpl.{eq-value}
use Rattle.eu_base.specs.contracts.tasks.ActionPartialEq.TheImpl as action
use Rattle.eu_base.specs.Values.{is_action, same_name, key_eq}
use Rattle.eu_model.specs.Server.{waits, is_old, live}
use Rattle.eu_outbox.specs.declared.waiting.Waiting.{Waiting}
use Rattle.eu_outbox.specs.Steps.{IsApart, in_line, named, placed, task_of}
use Rattle.eu_outbox.proofs.NameLemmas.{first_false, first_true, second_true, same_action, same_key, list_any-reverse, map-reverse, filter-reverse}
use Rattle.eu_outbox.proofs.TaskLemmas.{for_another, for-none, placed-left, placed-right, placed-before, IsApart-cross}

pub at_ok : {X E : Type 0} {r : Result X E} {x : X} (P : Type 0) → OnOk r P → r ≡ Ok x → P
at_ok P h e = subst (λ s. OnOk s P) e h

-- the equality of names, by which a map finds them
abbrev pub names_eq : TaskName → TaskName → Bool
names_eq = eq-value.it

actions_eq-test : (a b : Action) → action.eq-value.it a b ≡ is_action a b
actions_eq-test Register Register = refl
actions_eq-test Register _ = refl
actions_eq-test Heartbeat Heartbeat = refl
actions_eq-test Heartbeat _ = refl
actions_eq-test Cancel Cancel = refl
actions_eq-test Cancel _ = refl
actions_eq-test StatusUpdate StatusUpdate = refl
actions_eq-test StatusUpdate _ = refl
actions_eq-test DeleteStatusOverride DeleteStatusOverride = refl
actions_eq-test DeleteStatusOverride _ = refl

pub names_eq-test : (a b : TaskName) → names_eq a b ≡ (is_action a.action b.action && key_eq a.key b.key)
names_eq-test a b = ap (λ c. c && key_eq a.key b.key) (actions_eq-test a.action b.action)

pub same_names : (a b : TaskName) → names_eq a b ≡ true → a ≡ b
same_names a b h =
    let e : (is_action a.action b.action && key_eq a.key b.key) ≡ true = sym (names_eq-test a b) ∙ h in
    let action = same_action a.action b.action (first_true (is_action a.action b.action) (key_eq a.key b.key) e) in
    let key = same_key a.key b.key (second_true (is_action a.action b.action) (key_eq a.key b.key) e) in
    λ i. record { action = action i; key = key i }

-- a map finds a name where a task of that name waits
pub found : (n : TaskName) (es : List (TaskName × Waiting)) → is_some (lookup (names_eq n) es) ≡ list_any (named n) (map task_of es)
found n [] = refl
found n (e ∷ es) = by (names_eq n e.0) refl (found n es)
  where
    by : (b : Bool) → names_eq n e.0 ≡ b → is_some (lookup (names_eq n) es) ≡ list_any (named n) (map task_of es) → is_some (cond b (Some e.1) (lookup (names_eq n) es)) ≡ (named n (task_of e) || list_any (named n) (map task_of es))
    by true p r = sym (ap (λ c. c || list_any (named n) (map task_of es)) (sym (names_eq-test n e.0) ∙ p))
    by false p r = r ∙ sym (ap (λ c. c || list_any (named n) (map task_of es)) (sym (names_eq-test n e.0) ∙ p))

named-line : (n : TaskName) (es fs : List (TaskName × Waiting)) → list_any (named n) (in_line es fs) ≡ (list_any (named n) (map task_of es) || list_any (named n) (map task_of fs))
named-line n es fs =
    list_any-append (named n) (reverse (map task_of es)) (map task_of fs) ∙ ap (λ b. b || list_any (named n) (map task_of fs)) (list_any-reverse (named n) (map task_of es))

pub found_older : (n : TaskName) (es fs : List (TaskName × Waiting)) → is_some (lookup (names_eq n) es) ≡ true → list_any (named n) (in_line es fs) ≡ true
found_older n es fs h = named-line n es fs ∙ ap (λ b. b || list_any (named n) (map task_of fs)) (sym (found n es) ∙ h)

pub found_newer : (n : TaskName) (es fs : List (TaskName × Waiting)) → is_some (lookup (names_eq n) es) ≡ false → list_any (named n) (in_line es fs) ≡ is_some (lookup (names_eq n) fs)
found_newer n es fs h = named-line n es fs ∙ ap (λ b. b || list_any (named n) (map task_of fs)) (sym (found n es) ∙ h) ∙ sym (found n fs)

none_waits : (n : TaskName) (w : Waiting) (es : List (TaskName × Waiting)) → AllByRecursion (λ k. names_eq n k ≡ false) (keys_of es) → waits (task_of (n, w)) (map task_of es) ≡ false
none_waits n w [] h = refl
none_waits n w (e ∷ es) h = λ i. (sym (names_eq-test n e.0) ∙ h.0) i || none_waits n w es h.1 i

-- an insert places the task
pub inserted : (n : TaskName) (w : Waiting) (es : List (TaskName × Waiting)) → IsDistinct names_eq (keys_of es) → map task_of (insert_entry names_eq es n w) ≡ placed (task_of (n, w)) (map task_of es)
inserted n w [] d = refl
inserted n w (e ∷ es) d = by (names_eq n e.0) refl (inserted n w es (IsDistinct-tail names_eq e.0 (keys_of es) d))
  where
    by : (b : Bool) → names_eq n e.0 ≡ b → map task_of (insert_entry names_eq es n w) ≡ placed (task_of (n, w)) (map task_of es) → map task_of (cond b ((e.0, w) ∷ es) (e ∷ insert_entry names_eq es n w)) ≡ placed (task_of (n, w)) (task_of e ∷ map task_of es)
    by true p r =
        let same : same_name (task_of (n, w)) (task_of e) ≡ true = sym (names_eq-test n e.0) ∙ p in
        let none : waits (task_of (n, w)) (map task_of es) ≡ false = none_waits n w es (subst (λ k. AllByRecursion (λ j. names_eq k j ≡ false) (keys_of es)) (sym (same_names n e.0 p)) (IsDistinct-head names_eq e.0 (keys_of es) d)) in
        (λ i. task_of (sym (same_names n e.0 p) i, w) ∷ sym (for-none (task_of (n, w)) (map task_of es) none) i)
        ∙ (λ i. cond (sym same i) (task_of (n, w)) (task_of e) ∷ map (for_another (task_of (n, w))) (map task_of es))
        ∙ ap (λ b. cond (b || waits (task_of (n, w)) (map task_of es)) (map (for_another (task_of (n, w))) (task_of e ∷ map task_of es)) ((task_of e ∷ map task_of es) ++ task_of (n, w) ∷ [])) (sym same)
    by false p r =
        let other : waits (task_of (n, w)) (task_of e ∷ []) ≡ false = ap (λ b. b || false) (sym (names_eq-test n e.0) ∙ p) in
        ap (λ l. task_of e ∷ l) r ∙ placed-right (task_of (n, w)) (task_of e ∷ []) (map task_of es) other

-- the newer turned round, where there are no older
pub turned : (es fs : List (TaskName × Waiting)) → length es ≡ 0 → in_line (reverse fs) es ≡ in_line es fs
turned [] fs h = append-nil (reverse (map task_of (reverse fs))) ∙ ap reverse (map-reverse task_of fs) ∙ reverse-reverse (map task_of fs)
turned (e ∷ es) fs h = absurd (omega arith)

pub live_line : (t : ℕ) (es fs es2 fs2 : List (TaskName × Waiting)) → map task_of es2 ≡ live t (map task_of es) → map task_of fs2 ≡ live t (map task_of fs) → in_line es2 fs2 ≡ live t (in_line es fs)
live_line t es fs es2 fs2 p q =
    (λ i. reverse (p i) ++ q i)
    ∙ ap (λ l. l ++ live t (map task_of fs)) (sym (filter-reverse (λ task. not (is_old t task)) (map task_of es)))
    ∙ sym (filter-append (λ task. not (is_old t task)) (reverse (map task_of es)) (map task_of fs))

module _ (task : Task) (es fs : List (TaskName × Waiting)) where
  none_older : waits task (in_line es fs) ≡ false → waits task (map task_of es) ≡ false
  none_older h =
      sym (list_any-reverse (same_name task) (map task_of es))
      ∙ first_false (waits task (reverse (map task_of es))) (waits task (map task_of fs)) (sym (list_any-append (same_name task) (reverse (map task_of es)) (map task_of fs)) ∙ h)

  -- a task of a new name, placed among the older, comes first
  pub before_line : (es2 : List (TaskName × Waiting)) → map task_of es2 ≡ placed task (map task_of es) → waits task (in_line es fs) ≡ false → in_line es2 fs ≡ task ∷ in_line es fs
  before_line es2 p h = ap (λ l. reverse l ++ map task_of fs) p ∙ placed-before task (map task_of es) (map task_of fs) (none_older h)

  pub placed_older : (es2 : List (TaskName × Waiting)) → IsApart (in_line es fs) → map task_of es2 ≡ placed task (map task_of es) → waits task (map task_of es) ≡ true → in_line es2 fs ≡ placed task (in_line es fs)
  placed_older es2 apart p there =
      let none = IsApart-cross (reverse (map task_of es)) (map task_of fs) task apart (list_any-reverse (same_name task) (map task_of es) ∙ there) in
      ap (λ l. reverse l ++ map task_of fs) p ∙ placed-left task (map task_of es) (map task_of fs) there none

  pub placed_newer : (fs2 : List (TaskName × Waiting)) → map task_of fs2 ≡ placed task (map task_of fs) → waits task (map task_of es) ≡ false → in_line es fs2 ≡ placed task (in_line es fs)
  placed_newer fs2 p none =
      ap (λ l. reverse (map task_of es) ++ l) p ∙ placed-right task (reverse (map task_of es)) (map task_of fs) (list_any-reverse (same_name task) (map task_of es) ∙ none)

module _ {X : Type 0} where
  -- the rest of a list begins with its item at that place
  pub rest_at : (xs : List X) (i : ℕ) (x : X) → slice_get xs i ≡ Some x → drop i xs ≡ x ∷ drop (i + 1) xs
  rest_at [] i x h = absurd (cc)
  rest_at (y ∷ ys) zero x h = ap (λ z. z ∷ ys) (let e : y ≡ x = cc in e)
  rest_at (y ∷ ys) (suc i) x h = let next : suc (i + 1) ≡ suc i + 1 = omega arith in rest_at ys i x h ∙ ap (λ n. x ∷ drop n (y ∷ ys)) next

  -- the first of the rest, taken
  pub rest_taken : (i : ℕ) (xs : List X) (x : X) (rest : List X) → drop i xs ≡ x ∷ rest → rest ≡ drop (i + 1) xs
  rest_taken zero xs x rest h = sym (ap (drop 1) h)
  rest_taken (suc i) [] x rest h = absurd (cc)
  rest_taken (suc i) (y ∷ ys) x rest h = rest_taken i ys x rest h ∙ ap (λ n. drop n (y ∷ ys)) (let e : suc (i + 1) ≡ suc i + 1 = omega arith in e)

  pub front_taken : (i : ℕ) (xs : List X) (x : X) (rest : List X) → drop i xs ≡ x ∷ rest → take i xs ++ x ∷ [] ≡ take (i + 1) xs
  front_taken zero xs x rest h = sym (ap (take 1) h)
  front_taken (suc i) [] x rest h = absurd (cc)
  front_taken (suc i) (y ∷ ys) x rest h = ap (λ l. y ∷ l) (front_taken i ys x rest h) ∙ ap (λ n. take n (y ∷ ys)) (let e : suc (i + 1) ≡ suc i + 1 = omega arith in e)

  -- where nothing is left, more takes no more
  pub none_dropped : (i n : ℕ) (xs : List X) → drop i xs ≡ [] → i ≤ n → drop n xs ≡ []
  none_dropped i zero xs h le = ap (λ k. drop k xs) (let e : 0 ≡ i = omega arith in e) ∙ h
  none_dropped i (suc n) [] h le = refl
  none_dropped zero (suc n) (y ∷ ys) h le = absurd (cc)
  none_dropped (suc i) (suc n) (y ∷ ys) h le = none_dropped i n ys h (omega arith)

  pub all_taken : (i n : ℕ) (xs : List X) → drop i xs ≡ [] → i ≤ n → take i xs ≡ take n xs
  all_taken i zero xs h le = ap (λ k. take k xs) (let e : i ≡ 0 = omega arith in e)
  all_taken zero (suc n) [] h le = refl
  all_taken (suc i) (suc n) [] h le = refl
  all_taken zero (suc n) (y ∷ ys) h le = absurd (cc)
  all_taken (suc i) (suc n) (y ∷ ys) h le = ap (λ l. y ∷ l) (all_taken i n ys h (omega arith))

module _ {X : Type 0} where
  pub one_at : (xs : List X) (i : ℕ) (x : X) → slice_get xs i ≡ Some x → take 1 (drop i xs) ≡ x ∷ []
  one_at xs i x h = ap (take 1) (rest_at xs i x h)

  pub none_at : (xs : List X) (i : ℕ) → slice_get xs i ≡ None → take 1 (drop i xs) ≡ []
  none_at [] zero h = refl
  none_at [] (suc i) h = refl
  none_at (y ∷ ys) zero h = absurd (cc)
  none_at (y ∷ ys) (suc i) h = none_at ys i h

pub none_shown : {X Y : Type 0} (f : X → Y) (o : Option X) → false ≡ is_some o → option_to_list (option_map f o) ≡ []
none_shown f None h = refl
none_shown f (Some x) h = absurd (true≢false (sym h))

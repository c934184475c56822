-- Sums over slots, where one of them changes.
use Rattle.std.proofs.Common.{◌≡◌, ◌≢◌, ◌≤◌, ⊎_elim, subst, ℕ, zero, suc, ◌+◌, List, [], ◌∷◌, get_or, Option, None, sum_by, refl, ap, ◌∙◌, arith}
use Rattle.std.proofs.lemmas.Bool.{cases_eq}
use Rattle.std.proofs.lemmas.List.Sums.{sum_by-cons}
use Rattle.slab.specs.Slab.{Slab, get, Updates}
use Rattle.eu_hall.specs.declared.place.Place.{Place}
use Rattle.eu_hall.specs.Places.{bytes_at}
use Rattle.eu_hall.specs.Rooms.{AllFree}

module _ {X : Type 0} (f : Option X → ℕ) (zero_at : f None ≡ 0) where
  -- slots that find the same at each key have one sum
  sum_same : (old new : List (Option X)) → ((key : ℕ) → get_or new key None ≡ get_or old key None) → sum_by f new ≡ sum_by f old
  sum_same [] [] same = refl
  sum_same [] (y ∷ ys) same =
      let head : y ≡ None = same 0 in
      let rest = sum_same [] ys (λ key. same (suc key)) in
      omega (arith, sum_by-cons f y ys, ap f head, zero_at, rest)
  sum_same (x ∷ xs) [] same =
      let head : None ≡ x = same 0 in
      let rest = sum_same xs [] (λ key. same (suc key)) in
      omega (arith, sum_by-cons f x xs, ap f head, zero_at, rest)
  sum_same (x ∷ xs) (y ∷ ys) same =
      let head : y ≡ x = same 0 in
      let rest = sum_same xs ys (λ key. same (suc key)) in
      omega (arith, sum_by-cons f x xs, sum_by-cons f y ys, ap f head, rest)

  -- where one key finds another slot, the sum has that in place of the old
  sum_change : (old new : List (Option X)) (key : ℕ) → ((other : ℕ) → other ≢ key → get_or new other None ≡ get_or old other None) → sum_by f new + f (get_or old key None) ≡ sum_by f old + f (get_or new key None)
  sum_change [] [] key others = refl
  sum_change [] (y ∷ ys) zero others =
      let rest = sum_same [] ys (λ key. others (suc key) (λ e. absurd (omega (arith, e)))) in
      omega (arith, sum_by-cons f y ys, zero_at, rest)
  sum_change [] (y ∷ ys) (suc key) others =
      let head : y ≡ None = others 0 (λ e. absurd (omega (arith, e))) in
      let rest = sum_change [] ys key (λ other differs. others (suc other) (λ e. differs (omega (arith, e)))) in
      omega (arith, sum_by-cons f y ys, ap f head, zero_at, rest)
  sum_change (x ∷ xs) [] zero others =
      let rest = sum_same xs [] (λ key. others (suc key) (λ e. absurd (omega (arith, e)))) in
      omega (arith, sum_by-cons f x xs, zero_at, rest)
  sum_change (x ∷ xs) [] (suc key) others =
      let head : None ≡ x = others 0 (λ e. absurd (omega (arith, e))) in
      let rest = sum_change xs [] key (λ other differs. others (suc other) (λ e. differs (omega (arith, e)))) in
      omega (arith, sum_by-cons f x xs, ap f head, zero_at, rest)
  sum_change (x ∷ xs) (y ∷ ys) zero others =
      let rest = sum_same xs ys (λ key. others (suc key) (λ e. absurd (omega (arith, e)))) in
      omega (arith, sum_by-cons f x xs, sum_by-cons f y ys, rest)
  sum_change (x ∷ xs) (y ∷ ys) (suc key) others =
      let head : y ≡ x = others 0 (λ e. absurd (omega (arith, e))) in
      let rest = sum_change xs ys key (λ other differs. others (suc other) (λ e. differs (omega (arith, e)))) in
      omega (arith, sum_by-cons f x xs, sum_by-cons f y ys, ap f head, rest)

module _ {G : Type 0} where
  -- what the bytes come to where one place changes
  bytes_change : (old new : Slab (Place G)) (key : ℕ) (place : Option (Place G)) → Updates old new key place → sum_by bytes_at new.slots + bytes_at (get old key) ≡ sum_by bytes_at old.slots + bytes_at place
  bytes_change old new key place updates = sum_change bytes_at refl old.slots new.slots key updates.others ∙ ap (λ slot. sum_by bytes_at old.slots + bytes_at slot) updates.changed

  -- nothing comes to them where a place is taken that was free, by a guest that holds none
  pub bytes_entered : (old new : Slab (Place G)) (key : ℕ) (place : Option (Place G)) → Updates old new key place → get old key ≡ None → bytes_at place ≡ 0 → sum_by bytes_at new.slots ≡ sum_by bytes_at old.slots
  bytes_entered old new key place updates free none =
      let change = bytes_change old new key place updates in
      let before : bytes_at (get old key) ≡ 0 = ap bytes_at free in
      omega (arith, change, before, none)

  -- where one place changes, those from a bound on stay free, if that place is free now, or was not, or lies before it
  pub stay_free : (old new : List (Option (Place G))) (key bound : ℕ) → ((other : ℕ) → other ≢ key → get_or new other None ≡ get_or old other None) → (bound ≤ key → get_or new key None ≡ None) → AllFree old bound → AllFree new bound
  stay_free old new key bound others at free k from =
      ⊎_elim (λ e. rw e (at (subst (λ (n : ℕ). bound ≤ n) e from))) (λ differs. others k differs ∙ free k from) (cases_eq k key)

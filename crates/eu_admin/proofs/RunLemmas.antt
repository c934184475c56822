-- Leases that are cut where the application changes
use Rattle.std.proofs.Common.{◌≡◌, ℕ, zero, suc, ◌-◌, ◌<◌, ◌≤◌, Bool, true, false, List, [], ◌∷◌, length, get_or, take, drop, cond, not, refl, sym, ap, ◌∙◌, arith}
use Rattle.std.proofs.lemmas.List.{get_or_default}
use Rattle.eu_model.specs.declared.views.Listed.{Listed}
use Rattle.eu_admin.specs.Lines.{same_app, before_runs, runs}

-- each of the first n is of the application of the one before it
abbrev pub AreOfOne : List Listed → ℕ → Type 0
AreOfOne ls n = (k : ℕ) → suc k < n → (d : Listed) → same_app (get_or ls k d) (get_or ls (suc k) d) ≡ true

-- and the one behind them isn't
abbrev pub IsCut : List Listed → ℕ → Type 0
IsCut ls n = (k : ℕ) → suc k ≡ n → n < length ls → (d : Listed) → same_app (get_or ls k d) (get_or ls n d) ≡ false

abbrev Starts : Listed → List (List Listed) → Type 0
Starts l rs = (run : List Listed) × (more : List (List Listed)) × (rs ≡ (l ∷ run) ∷ more)

chosen : (b : Bool) (l m : Listed) (run : List Listed) (more : List (List Listed)) → Starts l (cond b ((l ∷ m ∷ run) ∷ more) ((l ∷ []) ∷ (m ∷ run) ∷ more))
chosen true l m run more = (m ∷ run, more, refl)
chosen false l m run more = ([], (m ∷ run) ∷ more, refl)

starts : (l : Listed) (rs : List (List Listed)) → Starts l (before_runs l rs)
starts l [] = ([], [], refl)
starts l ([] ∷ more) = ([], more, refl)
starts l ((m ∷ run) ∷ more) = chosen (same_app l m) l m run more

one : (l m : Listed) (rs : List (List Listed)) → Starts m rs → same_app l m ≡ false → before_runs l rs ≡ (l ∷ []) ∷ rs
one l m rs s apart = rw (s.2, apart) refl

-- the first run ends where it is cut
pub runs_cut : (ls : List Listed) (n : ℕ) → 0 < n → n ≤ length ls → AreOfOne ls n → IsCut ls n → runs ls ≡ take n ls ∷ runs (drop n ls)
runs_cut [] n low within same cut = absurd (omega arith)
runs_cut (l ∷ ls) zero low within same cut = absurd (omega arith)
runs_cut (l ∷ []) (suc zero) low within same cut = refl
runs_cut (l ∷ m ∷ ls) (suc zero) low within same cut = one l m (runs (m ∷ ls)) (starts m (runs ls)) (cut zero refl (omega arith) l)
runs_cut (l ∷ []) (suc (suc n)) low within same cut = absurd (omega arith)
runs_cut (l ∷ m ∷ ls) (suc (suc n)) low within same cut =
    let rest = runs_cut (m ∷ ls) (suc n) (omega arith) (omega arith) (λ k lt d. same (suc k) (omega arith) d) (λ k e lt d. cut (suc k) (ap suc e) (omega arith) d) in
    let here = same zero (omega arith) l in
    rw (rest, here) refl

-- a read of two neighbours, at any default
read_neighbours : (ls : List Listed) (k n : ℕ) (l m d : Listed) → suc k ≡ n → n < length ls → same_app (get_or ls (n - 1) l) (get_or ls n m) ≡ same_app (get_or ls k d) (get_or ls n d)
read_neighbours ls k n l m d next within =
    let before : n - 1 ≡ k = omega arith in
    let inside : k < length ls = omega arith in
    rw (before, get_or_default ls k l d inside, get_or_default ls n m d within) refl

not_true : (b : Bool) → not b ≡ true → b ≡ false
not_true true e = cc
not_true false e = refl

-- neighbours that were read and differ are a cut
pub differs_cut : (ls : List Listed) (n : ℕ) (l m : Listed) (b : Bool) → b ≡ not (same_app (get_or ls (n - 1) l) (get_or ls n m)) → b ≡ true → IsCut ls n
differs_cut ls n l m b is differs k next within d = sym (read_neighbours ls k n l m d next within) ∙ not_true _ (sym is ∙ differs)

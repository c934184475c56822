-- What the reasons and the moments that an operator sees mean
use Rattle.std.proofs.Common.{◌≡◌, ℕ, ◌+◌, ◌-◌, ◌*◌, ◌<◌, ◌≤◌, ◌^◌, min, Bool, true, false, not, ◌&&◌, ◌||◌, cond, eqb, ltb, refl, sym, ap, ◌∙◌, arith}
use Rattle.std.proofs.lemmas.Bool.{eqb-true, eqb-false, ltb-true, ltb-false}
use Rattle.std.proofs.lemmas.Bool.Decides.{nat_tests}
use Rattle.eu_model.specs.Machine.{Kind, durations}
use Rattle.eu_model.specs.Machine.Kind.{Fresh, Renewed}
use Rattle.eu_model.specs.Plain.{last_update}
use Rattle.eu_admin.specs.declared.facts.Permission.{Permission}
use Rattle.eu_admin.specs.declared.facts.Permission.TheVariants.{Off, NoThreshold, TooFew, Fine}
use Rattle.eu_admin.specs.Law.{Says, IsTouch, permitted_by}

-- the reason by three tests: whether a threshold is there, whether more renewed, and whether it is 0
abbrev reason : Bool → Bool → Bool → Permission
reason preservation permitted none = cond (not preservation) Off (cond permitted Fine (cond none NoThreshold TooFew))

abbrev IsRule : Bool → ℕ → ℕ → Bool → Bool → Bool → Type 0
IsRule preservation wanted renewed some more none =
    Says preservation wanted renewed (reason preservation (not preservation || (some && more)) none) × ((not preservation || (some && more)) ≡ permitted_by (reason preservation (not preservation || (some && more)) none))

by_tests : (preservation : Bool) (wanted renewed : ℕ) (some more none : Bool) → ltb 0 wanted ≡ some → ltb wanted renewed ≡ more → eqb wanted 0 ≡ none → IsRule preservation wanted renewed some more none
by_tests false wanted renewed some more none a b d = (refl, refl)
by_tests true wanted renewed true true none a b d = ((refl, ltb-true 0 wanted a, ltb-true wanted renewed b), refl)
by_tests true wanted renewed true false true a b d = ((refl, eqb-true wanted 0 d), refl)
by_tests true wanted renewed true false false a b d = ((refl, ltb-true 0 wanted a, ltb-false wanted renewed b), refl)
by_tests true wanted renewed false more true a b d = ((refl, eqb-true wanted 0 d), refl)
by_tests true wanted renewed false more false a b d =
    let none : wanted ≤ 0 = ltb-false 0 wanted a in
    absurd (eqb-false wanted 0 d (omega arith))

pub by_rule : (preservation : Bool) (wanted renewed : ℕ) → IsRule preservation wanted renewed (ltb 0 wanted) (ltb wanted renewed) (eqb wanted 0)
by_rule preservation wanted renewed = by_tests preservation wanted renewed (ltb 0 wanted) (ltb wanted renewed) (eqb wanted 0) refl refl refl

-- the moment of a touch, by the last update
chosen : (same : Bool) (updated at d : ℕ) → (same ≡ true → updated ≡ at) → (same ≡ false → updated - d ≡ at) → cond same updated (updated - d) ≡ at
chosen true updated at d p q = p refl
chosen false updated at d p q = q refl

pub heard_at : (k : Kind) (registered at d : ℕ) → IsTouch k registered at → cond (eqb (last_update k at d) registered) (last_update k at d) (last_update k at d - d) ≡ at
heard_at Fresh registered at d is = chosen (eqb at registered) at at d (λ e. refl) (λ e. absurd (eqb-false at registered e is))
heard_at Renewed registered at d is =
    chosen (eqb (at + d) registered) (at + d) at d (λ e. let same : at + d ≡ registered = eqb-true (at + d) registered e in omega arith) (λ e. omega arith)

-- a sum that is cut isn't passed by a number of 64 bits
cut : (a b t : ℕ) → a ≡ b → t < 2 ^ 64 → ltb a t ≡ ltb (min b (2 ^ 64 - 1)) t
cut a b t same small = grind (arith, nat_tests)

pub ends_at : (k : Kind) (at d t : ℕ) → t < 2 ^ 64 → ltb (at + durations k * d + 0) t ≡ ltb (min (last_update k at d + d) (2 ^ 64 - 1)) t
ends_at Fresh at d t small = cut (at + 1 * d + 0) (at + d) t (omega arith) small
ends_at Renewed at d t small = cut (at + 2 * d + 0) (at + d + d) t (omega arith) small

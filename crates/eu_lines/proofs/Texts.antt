-- Texts and their lines.
use Rattle.std.proofs.Common.{◌≡◌, ℕ, false, ◌==◌, List, [], ◌∷◌, ◌++◌, refl}
use Rattle.std.proofs.lemmas.Bool.{ne_eqb}
use Rattle.eu_lines.specs.Lines.{lines_of, HasNoEnd}

pub no_end_append : (xs ys : List ℕ) → HasNoEnd xs → HasNoEnd ys → HasNoEnd (xs ++ ys)
no_end_append [] ys p q = q
no_end_append (x ∷ xs) ys p q = (p.0, no_end_append xs ys p.1 q)

-- a text with no LF is one line
pub lines_of-tail : (tail : List ℕ) → HasNoEnd tail → lines_of tail ≡ tail ∷ []
lines_of-tail [] h = refl
lines_of-tail (x ∷ xs) h =
    let first : (x == 10) ≡ false = ne_eqb x 10 h.0 in
    rw (first, lines_of-tail xs h.1) refl

-- a line and its LF come before the lines of what follows
pub lines_of-line : (line more : List ℕ) → HasNoEnd line → lines_of (line ++ 10 ∷ more) ≡ line ∷ lines_of more
lines_of-line [] more h = refl
lines_of-line (x ∷ xs) more h =
    let first : (x == 10) ≡ false = ne_eqb x 10 h.0 in
    rw (first, lines_of-line xs more h.1) refl

-- Names in letters of either case
use Rattle.std.proofs.Common.{◌≡◌, ℕ, Bool, List, [], ◌∷◌, map, refl, sym, ◌∙◌, ap, arith, rules}
use Rattle.std.proofs.lemmas.Bool.Decides.{nat_tests}
use Rattle.std.proofs.lemmas.Slice.Eq.{bytes_eq-Decides}
use Rattle.std.proofs.lemmas.Str.Ascii.{lowercase-uppercase}
use Rattle.std.specs.Bool.{Decides}
use Rattle.std.specs.Char.{to_ascii_lowercase, to_ascii_uppercase}
use Rattle.std.specs.Str.{bytes_eq}

upper_lower : (c : ℕ) → to_ascii_uppercase (to_ascii_lowercase c) ≡ to_ascii_uppercase c
upper_lower c = grind (arith, nat_tests)

pub raised : (text : List ℕ) → map to_ascii_uppercase (map to_ascii_lowercase text) ≡ map to_ascii_uppercase text
raised [] = refl
raised (c ∷ text) = rw (upper_lower c, raised text) refl

pub lowered : (text : List ℕ) → map to_ascii_lowercase (map to_ascii_uppercase text) ≡ map to_ascii_lowercase text
lowered [] = refl
lowered (c ∷ text) = rw (lowercase-uppercase c, lowered text) refl

pub same_letters : (text name : List ℕ) (r : Bool) → map to_ascii_uppercase name ≡ name → Decides r (map to_ascii_lowercase text ≡ map to_ascii_lowercase name) → r ≡ bytes_eq (map to_ascii_uppercase text) name
same_letters text name r capitals same =
    let decides : Decides r (map to_ascii_uppercase text ≡ name) = (
      λ t. sym (raised text) ∙ ap (map to_ascii_uppercase) (same.0 t) ∙ raised name ∙ capitals,
      λ e. same.1 (sym (lowered text) ∙ ap (map to_ascii_lowercase) e),
    ) in
    search (rules, bytes_eq-Decides)

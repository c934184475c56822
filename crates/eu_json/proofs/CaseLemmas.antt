-- Texts that differ at most in the case of ASCII letters
use Rattle.std.proofs.Common.{◌≡◌, ℕ, Bool, true, false, List, map, refl, sym, ap, ◌∙◌}
use Rattle.std.proofs.lemmas.Slice.Eq.{bytes_eq-Decides}
use Rattle.std.specs.Char.{to_ascii_lowercase, to_ascii_uppercase}
use Rattle.std.specs.Str.{bytes_eq, str_to_ascii_uppercase}
use Rattle.eu_base.proofs.StatusLemmas.{lowered, raised}
use Rattle.eu_json.specs.Reading.{alike}

same_tests : (r s : Bool) → (r ≡ true → s ≡ true) → (s ≡ true → r ≡ true) → r ≡ s
same_tests true s there back = sym (there refl)
same_tests false true there back = back refl
same_tests false false there back = refl

-- a test of the small letters tells the same as one of the capitals
pub alike_by_lower : (a b : List ℕ) (r : Bool) → (r ≡ true → map to_ascii_lowercase a ≡ map to_ascii_lowercase b)
    → (map to_ascii_lowercase a ≡ map to_ascii_lowercase b → r ≡ true) → r ≡ alike a b
alike_by_lower a b r there back =
    let decides = bytes_eq-Decides (map to_ascii_uppercase a) (map to_ascii_uppercase b) in
    same_tests r (alike a b)
    (λ e. decides.1 (sym (raised a) ∙ ap (map to_ascii_uppercase) (there e) ∙ raised b))
    (λ e. back (sym (lowered a) ∙ ap (map to_ascii_lowercase) (decides.0 e) ∙ lowered b))

-- capitals are put in capitals once
pub upper_again : (s : List ℕ) → map to_ascii_uppercase (map to_ascii_uppercase s) ≡ map to_ascii_uppercase s
upper_again s = sym (raised (map to_ascii_uppercase s)) ∙ ap (map to_ascii_uppercase) (lowered s) ∙ raised s

-- so a text is like another in capitals where it is like that
pub alike_upper : (a b : List ℕ) → alike a (str_to_ascii_uppercase b) ≡ alike a b
alike_upper a b = ap (λ t. bytes_eq (str_to_ascii_uppercase a) t) (upper_again b)

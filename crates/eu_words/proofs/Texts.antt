-- Words cut at spaces, digits, and names
use Rattle.std.proofs.Common.{◌≡◌, ℕ, zero, suc, ◌+◌, ◌-◌, ◌*◌, ◌^◌, ◌<◌, ◌≤◌, Bool, true, false, ◌&&◌, List, [], ◌∷◌, ◌++◌, length, length-append, add-one, get_or, take, drop, refl, sym, ap, ◌∙◌, arith, None, nat_lt, nat_le, ◌==◌, cond, eq-eqb}
use Rattle.std.proofs.lemmas.Bool.{ne_eqb, false_from_ne_true, false≢true, leb-true}
use Rattle.std.proofs.lemmas.Str.{IsUtf8-from_is_utf8, is_utf8-from_IsUtf8, digit_value_digit}
use Rattle.std.proofs.Math.Nat.{pow-suc, pow-le-pow_right}
use Rattle.std.specs.List.{onto_first}
use Rattle.std.specs.Str.{all_ascii_digits, is_utf8, IsUtf8}
use Rattle.std.specs.Char.{is_ascii_digit, digit_value}
use Rattle.std.specs.Prelude.{Some, Result, Ok, Err, if◌then◌else◌}
use Rattle.std.specs.Str.Parse.{digits_value}
use Rattle.std.proofs.lemmas.Int.Digits.{digits_value_push}
use Rattle.eu_base.specs.declared.faults.Fault.{Fault}
use Rattle.eu_base.specs.declared.faults.Fault.TheVariants as faults
use Rattle.eu_base.specs.Fault.{fault_number}
use Rattle.eu_base.specs.Digits.{digits}
use Rattle.eu_base.specs.Limits.{longest_name}
use Rattle.eu_words.specs.Words.{◌>>=◌, words_of, end_at, is_name, number}

-- the first word ends before the first space
pub cut_here : (text : List ℕ) (i : ℕ) → i < length text → ((k : ℕ) → k < i → get_or text k 0 ≡ 32 → ⊥) → get_or text i 0 ≡ 32
    → words_of text ≡ take i text ∷ words_of (drop (suc i) text)
cut_here [] i lt before here = absurd (omega arith)
cut_here (x ∷ xs) zero lt before here =
    let first : (x == 32) ≡ true = eq-eqb x 32 here in
    rw first refl
cut_here (x ∷ xs) (suc i) lt before here =
    let first : (x == 32) ≡ false = ne_eqb x 32 (before zero (omega arith)) in
    let rest = cut_here xs i (omega arith) (λ k l. before (suc k) (omega arith)) here in
    rw (first, rest) refl

-- where there is no space, the text is the one word
pub cut_nowhere : (text : List ℕ) → ((k : ℕ) → k < length text → get_or text k 0 ≡ 32 → ⊥) → words_of text ≡ text ∷ []
cut_nowhere [] before = refl
cut_nowhere (x ∷ xs) before =
    let first : (x == 32) ≡ false = ne_eqb x 32 (before zero (omega arith)) in
    let rest = cut_nowhere xs (λ k l. before (suc k) (omega arith)) in
    rw (first, rest) refl

onto_some : (x : ℕ) (parts : List (List ℕ)) → end_at (onto_first x parts) ≡ None
onto_some x [] = refl
onto_some x (p ∷ ps) = refl

split_some : (b : Bool) (x : ℕ) (parts : List (List ℕ)) → end_at (cond b ([] ∷ parts) (onto_first x parts)) ≡ None
split_some true x parts = refl
split_some false x parts = onto_some x parts

-- each text has a first word
pub words_some : (text : List ℕ) → end_at (words_of text) ≡ None
words_some [] = refl
words_some (x ∷ xs) = split_some (x == 32) x (words_of xs)

all_digits_push : (w : List ℕ) (x : ℕ) → all_ascii_digits (w ++ x ∷ []) ≡ (all_ascii_digits w && is_ascii_digit x)
all_digits_push [] x = elim (is_ascii_digit x) as (λ b. (b && true) ≡ b) [ true ↦ refl | false ↦ refl ]
all_digits_push (y ∷ w) x = elim (is_ascii_digit y) as (λ b. (b && all_ascii_digits (w ++ x ∷ [])) ≡ ((b && all_ascii_digits w) && is_ascii_digit x)) [ true ↦ all_digits_push w x | false ↦ refl ]

number_by : (short all digit : Bool) (v d : ℕ) → (if short && (all && digit) then Some (v * 10 + d) else None) ≡ (if short && all then Some v else None) >>= (λ v. if digit then Some (v * 10 + d) else None)
number_by true true true v d = refl
number_by true true false v d = refl
number_by true false digit v d = refl
number_by false all digit v d = refl

short_push : (n : ℕ) → (nat_lt 0 (suc n) && nat_lt (suc n) 21) ≡ nat_lt n 20
short_push n = grind arith

-- a number is some digits and one more
pub number_push : (w : List ℕ) (x : ℕ) → number (w ++ x ∷ []) ≡ digits w >>= (λ v. if is_ascii_digit x then Some (v * 10 + digit_value x) else None)
number_push w x =
    rw (length-append w (x ∷ []), add-one, short_push (length w), all_digits_push w x, digits_value_push 10 w x)
    (number_by (nat_lt (length w) 20) (all_ascii_digits w) (is_ascii_digit x) (digits_value 10 w) (digit_value x))

and_false : (a b : Bool) → b ≡ false → (a && b) ≡ false
and_false true b e = e
and_false false b e = refl

-- a word that isn't UTF-8 is no name
pub no_name : (w : List ℕ) → (IsUtf8 w → ⊥) → is_name w ≡ false
no_name w h = and_false _ (is_utf8 w) (false_from_ne_true _ (λ e. h (IsUtf8-from_is_utf8 w e)))

some_length : (w : List ℕ) → 0 < length w → length w ≤ longest_name → IsUtf8 w → is_name w ≡ true
some_length w low high u = rw (is_utf8-from_IsUtf8 w u) (grind arith)

-- a word of UTF-8 that is neither empty nor too long is a name
pub some_name : (w : List ℕ) → (w ≡ [] → ⊥) → (longest_name < length w → ⊥) → IsUtf8 w → is_name w ≡ true
some_name [] filled short u = absurd (filled refl)
some_name (x ∷ xs) filled short u = some_length (x ∷ xs) (omega arith) (omega (arith, short)) u

abbrev number_in : {X : Type 0} → Result X Fault → ℕ
number_in (Ok x) = 0
number_in (Err f) = fault_number f

-- want of memory is no other fault
pub other_faults : {X : Type 0} (r : Result X Fault) (f g : Fault) → r ≡ Err f → f ≡ faults.OutOfMemory → (fault_number g == 3) ≡ false → r ≡ Err g → ⊥
other_faults {X} r f g is memory other e =
    let at : fault_number g ≡ 3 = sym (ap (λ (x : Result X Fault). number_in x) e) ∙ ap (λ (x : Result X Fault). number_in x) is ∙ ap fault_number memory in
    false≢true (sym other ∙ eq-eqb (fault_number g) 3 at)

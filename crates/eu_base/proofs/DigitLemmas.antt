-- Decimal digits
use Rattle.std.proofs.Common.{◌≡◌, ℕ, zero, suc, ◌+◌, ◌-◌, ◌*◌, ◌^◌, ◌<◌, ◌≤◌, Bool, true, false, ◌&&◌, List, [], ◌∷◌, length, get_or, take, refl, arith, None, nat_lt, nat_le}
use Rattle.std.proofs.lemmas.Bool.{leb-true}
use Rattle.std.proofs.lemmas.Str.{digit_value_digit}
use Rattle.std.proofs.Math.Nat.{pow-suc, pow-le-pow_right}
use Rattle.std.specs.Str.{all_ascii_digits}
use Rattle.std.specs.Char.{is_ascii_digit, digit_value}
use Rattle.eu_base.specs.Digits.{digits}

and_parts : (a b : Bool) → (a && b) ≡ true → (a ≡ true) × (b ≡ true)
and_parts true b e = (refl, e)
and_parts false b e = cc

and_false : (a b : Bool) → b ≡ false → (a && b) ≡ false
and_false true b e = e
and_false false b e = refl

pub digits_more : (s : List ℕ) (i : ℕ) → i < length s → all_ascii_digits (take i s) ≡ true → is_ascii_digit (get_or s i 0) ≡ true → all_ascii_digits (take (suc i) s) ≡ true
digits_more [] i lt a d = absurd (omega arith)
digits_more (x ∷ xs) zero lt a d = rw d refl
digits_more (x ∷ xs) (suc i) lt a d =
    let p = and_parts (is_ascii_digit x) (all_ascii_digits (take i xs)) a in
    rw (p.0, digits_more xs i (omega arith) p.1 d) refl

pub not_digits : (s : List ℕ) (i : ℕ) → i < length s → is_ascii_digit (get_or s i 0) ≡ false → all_ascii_digits s ≡ false
not_digits [] i lt d = absurd (omega arith)
not_digits (x ∷ xs) zero lt d = rw d refl
not_digits (x ∷ xs) (suc i) lt d = and_false (is_ascii_digit x) (all_ascii_digits xs) (not_digits xs i (omega arith) d)

-- a text that isn't all digits is no number
pub no_digits : (s : List ℕ) → all_ascii_digits s ≡ false → digits s ≡ None
no_digits s h = rw (and_false (nat_lt (length s) 20) (all_ascii_digits s) h) refl

-- the value with one digit more
pub one_more : (v d i : ℕ) → v < 10 ^ i → d < 10 → v * 10 + d < 10 ^ suc i
one_more v d i small digit = rw pow-suc (omega arith)

-- fewer than twenty digits fit
pub fits_more : (v d i : ℕ) → v < 10 ^ i → i < 19 → d < 10 → v * 10 + d < 2 ^ 64
fits_more v d i small few digit =
    let most : 10 ^ i ≤ 10 ^ 18 = pow-le-pow_right {n = 10} (omega arith) {i = i} {j = 18} (omega (arith, few)) in
    omega (arith, small, most, digit)

-- a digit's value
pub digit_is : (c : ℕ) → is_ascii_digit c ≡ true → (digit_value c ≡ c - 48) × (c - 48 < 10)
digit_is c h =
    let p = and_parts (nat_le 48 c) (nat_le c 57) h in
    let low = leb-true 48 c p.0 in
    let high = leb-true c 57 p.1 in
    let v : digit_value c + 48 ≡ c = digit_value_digit c (low, high) in
    (omega arith, omega arith)

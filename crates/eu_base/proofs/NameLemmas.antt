-- Texts without small letters
use Rattle.std.proofs.Common.{◌≡◌, ℕ, Bool, true, false, ◌&&◌, nat_le, refl}
use Rattle.std.specs.Int.{is_in_range}
use Rattle.std.specs.Char.{to_ascii_uppercase}
use Rattle.std.proofs.lemmas.Bool.{leb-false, true≢false}
use Rattle.std.proofs.lemmas.Str.Ascii.{uppercase_is}

by_range : (c : ℕ) → (low high : Bool) → nat_le 97 c ≡ low → nat_le c 122 ≡ high → (low && high) ≡ false → to_ascii_uppercase c ≡ c
by_range c false high l h e = (uppercase_is c).1 (leb-false 97 c l)
by_range c true false l h e = (uppercase_is c).2 (leb-false c 122 h)
by_range c true true l h e = absurd (true≢false e)

-- a byte that is no small letter stays as it is
pub not_small_stays : (c : ℕ) → is_in_range 97 122 c ≡ false → to_ascii_uppercase c ≡ c
not_small_stays c e = by_range c (nat_le 97 c) (nat_le c 122) refl refl e

-- Texts in markup, and in the paths of links
use Rattle.std.specs.Prelude.{ℕ, List, [], ◌∷◌, ◌/◌, ◌%◌, ◌≢◌, Bool, true, ◌==◌, ◌&&◌, ◌||◌, codes, nat_le, if◌then◌else◌}
use Rattle.std.specs.List.{All, flat_map}
use Rattle.std.specs.Char.{encode_utf8}
use Rattle.std.specs.Str.{chars}
use Rattle.std.specs.Fmt.{digit_glyph}

-- ---- markup

-- how a character is written: the five that markup takes for more than text, `&`, `<`, `>`, `"` and `'`, by references
abbrev pub escaped_char : ℕ → List ℕ
escaped_char c =
    if c == 38 then codes "&amp;"
    else (if c == 60 then codes "&lt;"
    else (if c == 62 then codes "&gt;"
    else (if c == 34 then codes "&quot;"
    else (if c == 39 then codes "&#39;"
    else encode_utf8 c))))

-- and each of a text's
abbrev pub escaped : List ℕ → List ℕ
escaped text = flat_map escaped_char (chars text)

-- a byte that opens no tag, closes none, and ends no attribute
abbrev pub IsInert : ℕ → Type 0
IsInert byte = (byte ≢ 60) × (byte ≢ 62) × (byte ≢ 34) × (byte ≢ 39)

-- whatever the text is, its escape has no other
abbrev pub EscapesAreText : Type 0
EscapesAreText = (text : List ℕ) → All IsInert (escaped text)

-- ---- paths

abbrev pub is_between : ℕ → ℕ → ℕ → Bool
is_between low high byte = nat_le low byte && nat_le byte high

-- capitals, small letters, digits, and `-`, `.`, `_` and `~`
abbrev pub is_unreserved : ℕ → Bool
is_unreserved byte =
    is_between 65 90 byte || (is_between 97 122 byte || (is_between 48 57 byte || (byte == 45 || (byte == 46 || (byte == 95 || byte == 126)))))

-- a digit to the base 16
abbrev pub hex : ℕ → ℕ
hex digit = digit_glyph true digit

-- `%` and the two digits of a byte
abbrev pub percent : ℕ → List ℕ
percent byte = 37 ∷ hex (byte / 16) ∷ hex (byte % 16) ∷ []

-- how a byte is written in a path: as it is, or by its digits
abbrev pub encoded_byte : ℕ → List ℕ
encoded_byte byte = if is_unreserved byte then byte ∷ [] else percent byte

abbrev pub encoded : List ℕ → List ℕ
encoded text = flat_map encoded_byte text

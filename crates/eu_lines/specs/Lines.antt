-- The lines of a text.
use Rattle.std.specs.Prelude.{◌≡◌, ◌≢◌, ◌⊎◌, ℕ, ◌≤◌, ◌<◌, List, [], ◌∷◌, ◌++◌, length, Option, ◌==◌}
use Rattle.std.specs.List.{AllByRecursion, slice_split}
use Rattle.std.specs.Io.KnownBytes.{IsAtEnd}
use Rattle.eu_lines.specs.declared.limits.Limits.{Limits}

-- a line of a script has up to 4,096 bytes, and a script up to 16,777,216
abbrev pub script_limits : Limits
script_limits = record { line = 4096; text = 16777216 }

-- the lines of a text: its parts between LFs, so the last is empty where the text ends with LF
abbrev pub lines_of : List ℕ → List (List ℕ)
lines_of text = slice_split (λ b. b == 10) text

-- nothing, or bytes that end with LF: whole lines
abbrev pub IsWhole : List ℕ → Type 0
IsWhole front = (front ≡ []) ⊎ ((bytes : List ℕ) × (front ≡ bytes ++ 10 ∷ []))

-- bytes with no LF
abbrev pub HasNoEnd : List ℕ → Type 0
HasNoEnd bytes = AllByRecursion (λ b. b ≢ 10) bytes

-- a text's front of all its whole lines
abbrev pub AreWholeLines : List ℕ → List ℕ → Type 0
AreWholeLines text front = IsWhole front × (tail : List ℕ) × (text ≡ front ++ tail) × HasNoEnd tail

-- the part within the bound of the bytes that were read: as many of the first as a text may have, where there are more
abbrev pub IsWithinBound : ℕ → List ℕ → List ℕ → Type 0
IsWithinBound most read text = (rest : List ℕ) × (read ≡ text ++ rest) × (length text ≤ most) × (0 < length rest → length text ≡ most)

-- A front of the bytes that were read, whose lines may be judged, where these are left to read: whole lines within the bound,
-- or the whole text, at its end.
abbrev pub IsJudged : ℕ → Option (List ℕ) → List ℕ → List ℕ → Type 0
IsJudged most left read front =
    ((rest : List ℕ) × (read ≡ front ++ rest) × IsWhole front × (length front ≤ most))
    ⊎ ((front ≡ read) × (length read ≤ most) × IsAtEnd left)

-- The partial line: all of a line so far, or of one that is too long more than a line may have.
abbrev pub IsKept : ℕ → List ℕ → List ℕ → Type 0
IsKept longest partial line = ((partial ≡ line) × (length line ≤ longest)) ⊎ ((longest < length partial) × (longest < length line))

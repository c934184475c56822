-- How a text is looked through for the empty line that ends it. Only the contracts of private functions speak of this.
use Rattle.std.specs.Prelude.{◌≡◌, ◌≤◌, ◌<◌, ℕ, Bool, true, false, not, ◌&&◌, ◌||◌, ◌==◌, if◌then◌else◌, List, [], ◌∷◌, length, take}
use Rattle.httparse.specs.Grammar.{LineEnd, Field, print_section, ReadsSection, RequestHead, print_request, ReadsRequest, ChunkLine, print_chunk_line, ReadsChunkLine}
use Rattle.eu_framing.specs.declared.scan.Scan.{Scan}

-- whether the line has a byte, CR aside, once this byte has come
abbrev pub line_after : Bool → ℕ → Bool
line_after in_line b = if b == 10 then false else (if b == 13 then in_line else true)

-- whether an empty line ends the text, once this byte has come
abbrev pub begun_after : Bool → ℕ → Bool
begun_after begun b = if b == 10 then begun else (if b == 13 then begun else true)

-- the same once these bytes have come
abbrev pub line_of : Bool → List ℕ → Bool
line_of in_line [] = in_line
line_of in_line (b ∷ bytes) = line_of (line_after in_line b) bytes

abbrev pub begun_of : Bool → List ℕ → Bool
begun_of begun [] = begun
begun_of begun (b ∷ bytes) = begun_of (begun_after begun b) bytes

-- the byte ends an empty line that ends the text
abbrev pub is_end : Bool → Bool → ℕ → Bool
is_end in_line begun b = (b == 10) && (begun && not in_line)

-- one of the bytes does
abbrev pub has_end : Bool → Bool → List ℕ → Bool
has_end in_line begun [] = false
has_end in_line begun (b ∷ bytes) = is_end in_line begun b || has_end (line_after in_line b) (begun_after begun b) bytes

-- it stands where the look through so many bytes of the text leads
pub record IsAt (begun : Bool) (text : List ℕ) (scan : Scan) : Type 0 where
  pub within : scan.seen ≤ length text
  pub line : scan.in_line ≡ line_of false (take scan.seen text)
  pub begun_is : scan.begun ≡ begun_of begun (take scan.seen text)

-- each head at the front of the text ends behind so many bytes
abbrev pub HeadEndsAfter : ℕ → List ℕ → Type 0
HeadEndsAfter n text = (h : RequestHead) (rest : List ℕ) → ReadsRequest text h rest → n < length (print_request h)

-- each trailer at the front of the text does
abbrev pub TrailerEndsAfter : ℕ → List ℕ → Type 0
TrailerEndsAfter n text = (fields : List Field) (last : LineEnd) (rest : List ℕ) → ReadsSection text fields last rest → n < length (print_section fields last)

-- each chunk line at the front of the text does
abbrev pub LineEndsAfter : ℕ → List ℕ → Type 0
LineEndsAfter n text = (l : ChunkLine) (rest : List ℕ) → ReadsChunkLine text l rest → n < length (print_chunk_line l)

-- What the steps through a chunked body find in the buffer. Only the contracts of private functions speak of this.
use Rattle.std.specs.Prelude.{◌≡◌, ◌≤◌, ◌<◌, ℕ, ◌+◌, ◌-◌, List, ◌++◌, length, drop, count_by, if◌then◌else◌, nat_le, ◌==◌, ◌&&◌}
use Rattle.httparse.specs.Ascii.{line_feed}
use Rattle.httparse.specs.Grammar.{LineEnd, Field, print_section, ReadsSection}
use Rattle.eu_base.specs.declared.faults.Fault.{Fault}
use Rattle.eu_base.specs.declared.faults.Fault.TheVariants as faults
use Rattle.eu_framing.specs.declared.chunks.Step.{Step}
use Rattle.eu_framing.specs.declared.chunks.Step.TheVariants as steps
use Rattle.eu_framing.specs.Fields.{max_body}
use Rattle.eu_framing.specs.Chunks.{Chunk, IsChunk, print_chunk, max_raw, max_trailer, trailer_room}
use Rattle.eu_framing.specs.Steps.{FindsLine, Took}

-- a chunk was taken within the room, its data was put to the end of the body, and so many bytes were used
pub record TakesChunk (start room : ℕ) (buffer body body' : List ℕ) (n : ℕ) : Type 0 where
  pub chunk : Chunk
  pub is : IsChunk chunk
  pub stands : drop start buffer ≡ print_chunk chunk ++ drop (start + n) buffer
  pub len : n ≡ length (print_chunk chunk)
  pub bytes : body' ≡ body ++ chunk.data_
  pub few : length body' ≤ max_body
  pub fits : n ≤ room
  pub inside : start + n ≤ length buffer

-- the last line stands there within the room, and the body stays
abbrev pub FindsLast : ℕ → ℕ → List ℕ → List ℕ → List ℕ → ℕ → Type 0
FindsLast start room buffer body body' n = FindsLine room (drop start buffer) (n, 0) × (body' ≡ body) × (n ≤ room) × (start + n ≤ length buffer)

-- what one step does
abbrev pub TakesStep : ℕ → ℕ → List ℕ → List ℕ → List ℕ → Step → Type 0
TakesStep start room buffer body body' (steps.Chunk n) = TakesChunk start room buffer body body' n × (0 < n)
TakesStep start room buffer body body' (steps.Last n) = FindsLast start room buffer body body' n

-- the chunks stand in the buffer from start to at, and then the last line
abbrev pub TakesChunks : ℕ → ℕ → ℕ → List ℕ → List ℕ → Type 0
TakesChunks start at n buffer body =
    (cs : List Chunk) × Took start at buffer body cs × FindsLine (max_raw - (at - start)) (drop at buffer) (n, 0)
    × (at - start + n ≤ max_raw) × (at + n ≤ length buffer) × (start ≤ at)

-- the text begins with a trailer of that length, within its limits
pub record FindsTrailer (room : ℕ) (text : List ℕ) (len : ℕ) : Type 0 where
  pub fields : List Field
  pub last : LineEnd
  pub reads : ReadsSection text fields last (drop len text)
  pub size : len ≡ length (print_section fields last)
  pub fits : len ≤ trailer_room room
  pub few : length fields ≤ 64

-- how many lines end in the bytes
abbrev pub lines_in : List ℕ → ℕ
lines_in bytes = count_by (λ b. b == line_feed) bytes

-- the fault of a trailer that doesn't end within these bytes, all that it may have: with at most 64 lines, which are its
-- fields, it makes the body too long where the room ends there
abbrev pub long_trailer_fault : ℕ → List ℕ → Fault
long_trailer_fault room bytes =
    if nat_le (lines_in bytes) 64 && nat_le room max_trailer then faults.BodyTooLong else faults.BadChunk

-- A chunked body (RFC 9112, section 7.1): chunks with data, the last line with size 0, and a trailer.
use Rattle.std.specs.Prelude.{◌≡◌, ℕ, ◌+◌, ◌-◌, ◌<◌, ◌≤◌, ◌⊎◌, min, List, ◌++◌, length, take, drop, flat_map, if◌then◌else◌, nat_le}
use Rattle.std.specs.List.{AllByRecursion}
use Rattle.httparse.specs.Ascii.{crlf_bytes}
use Rattle.httparse.specs.Grammar.{LineEnd, Field, ChunkLine, print_chunk_line, IsChunkLine, ReadsChunkLine, HasNoChunkLine, NeverHasChunkLine, MayBecomeChunkLine, chunk_size, print_section, ReadsSection, HasNoSection, NeverHasSection, MayBecomeSection}
use Rattle.httparse.specs.Spans.{SectionExceeds}
use Rattle.eu_base.specs.declared.faults.Fault.{Fault}
use Rattle.eu_base.specs.declared.faults.Fault.TheVariants as faults
use Rattle.eu_framing.specs.Fields.{max_body}

-- the most bytes from the first chunk line to the end of the trailer
abbrev pub max_raw : ℕ
max_raw = 4194304

abbrev pub max_trailer : ℕ
max_trailer = 8192

-- a chunk: its line, and the data that this announces
pub record Chunk : Type 0 where
  pub line : ChunkLine
  pub data_ : List ℕ

-- its bytes: the line, the data, CR LF
abbrev pub print_chunk : Chunk → List ℕ
print_chunk c = print_chunk_line c.line ++ (c.data_ ++ crlf_bytes)

pub record IsChunk (c : Chunk) : Type 0 where
  pub line : IsChunkLine c.line
  pub sized : chunk_size c.line ≡ length c.data_
  pub some : 0 < length c.data_

-- the bytes of chunks
abbrev pub raw : List Chunk → List ℕ
raw cs = flat_map print_chunk cs

-- the data of chunks
abbrev pub content : List Chunk → List ℕ
content cs = flat_map (λ c. c.data_) cs

-- the bytes are these chunks, within the limits, and then the text
pub record Leads (bytes : List ℕ) (cs : List Chunk) (text : List ℕ) : Type 0 where
  pub each : AllByRecursion IsChunk cs
  pub whole : bytes ≡ raw cs ++ text
  pub body : length (content cs) ≤ max_body
  pub short : length (raw cs) ≤ max_raw

-- how many bytes the chunked body may still have after these chunks
abbrev pub room_after : List Chunk → ℕ
room_after cs = max_raw - length (raw cs)

-- how many bytes a trailer may have: its own limit, or what is left
abbrev pub trailer_room : ℕ → ℕ
trailer_room room = min max_trailer room

-- the text is a chunk line within the room, and then what is after it
pub record HasLine (room : ℕ) (text : List ℕ) (line : ChunkLine) (after : List ℕ) : Type 0 where
  pub reads : ReadsChunkLine text line after
  pub fits : length (print_chunk_line line) ≤ room

-- the text is a trailer within its limits, and then the rest
pub record HasTrailer (room : ℕ) (text : List ℕ) (rest : List ℕ) : Type 0 where
  pub fields : List Field
  pub last : LineEnd
  pub reads : ReadsSection text fields last rest
  pub fits : length (print_section fields last) ≤ trailer_room room
  pub few : length fields ≤ 64

-- the text is the last line and a trailer, and then the rest
abbrev pub EndsChunks : ℕ → List ℕ → List ℕ → Type 0
EndsChunks room text rest =
    (line : ChunkLine) × (after : List ℕ) × HasLine room text line after × (chunk_size line ≡ 0)
    × HasTrailer (room - length (print_chunk_line line)) after rest

-- the bytes are a chunked body, and then the rest
abbrev pub ReadsChunked : List ℕ → List ℕ → List ℕ → Type 0
ReadsChunked bytes body rest =
    (cs : List Chunk) × (text : List ℕ) × Leads bytes cs text × (body ≡ content cs) × EndsChunks (room_after cs) text rest

-- What can be wrong at the text after some chunks.

-- no chunk line begins the text: what is there can't become one, or the text ends inside it; or the room ends inside it
abbrev pub IsLineFault : ℕ → List ℕ → Fault → Type 0
IsLineFault room text fault =
    ((fault ≡ faults.BadChunk) × NeverHasChunkLine (take room text))
    ⊎ ((fault ≡ faults.BadChunk) × (length text < room) × HasNoChunkLine text)
    ⊎ ((fault ≡ faults.BodyTooLong) × (room ≤ length text) × HasNoChunkLine (take room text) × MayBecomeChunkLine (take room text))

-- after a line of that size its data and CR LF don't come: the text ends inside them, the room ends inside them, or the
-- bytes after the data aren't CR LF
abbrev pub IsDataFault : ℕ → ℕ → List ℕ → Fault → Type 0
IsDataFault room size after fault =
    ((fault ≡ faults.BadChunk) × (length after < min room (size + 2)))
    ⊎ ((fault ≡ faults.BodyTooLong) × (room < size + 2) × (room ≤ length after))
    ⊎ ((fault ≡ faults.BadChunk) × (size + 2 ≤ room) × (size + 2 ≤ length after) × ¬ (take 2 (drop size after) ≡ crlf_bytes))

-- after the last line no trailer comes: what is there can't become one or has too many fields, the text ends inside it, or
-- its limit or the room ends inside it before it has too many
abbrev pub IsTrailerFault : ℕ → List ℕ → Fault → Type 0
IsTrailerFault room after fault =
    ((fault ≡ faults.BadChunk) × (NeverHasSection (take (trailer_room room) after) ⊎ SectionExceeds 64 (take (trailer_room room) after)))
    ⊎ ((fault ≡ faults.BadChunk) × (length after < trailer_room room) × HasNoSection after)
    ⊎ ((fault ≡ (if nat_le room max_trailer then faults.BodyTooLong else faults.BadChunk)) × (trailer_room room ≤ length after) × HasNoSection (take (trailer_room room) after) × MayBecomeSection (take (trailer_room room) after) × ¬ (SectionExceeds 64 (take (trailer_room room) after)))

-- The text after chunks that hold so much of a body goes on to no whole body. A line that takes the body above its limit
-- is a fault at once; its data isn't waited for.
abbrev pub BreaksChunks : ℕ → ℕ → List ℕ → Fault → Type 0
BreaksChunks room held text fault =
    IsLineFault room text fault
    ⊎ ((line : ChunkLine) × (after : List ℕ) × HasLine room text line after
    × (((fault ≡ faults.BodyTooLong) × (max_body < held + chunk_size line))
    ⊎ ((0 < chunk_size line) × (held + chunk_size line ≤ max_body) × IsDataFault (room - length (print_chunk_line line)) (chunk_size line) after fault)
    ⊎ ((chunk_size line ≡ 0) × IsTrailerFault (room - length (print_chunk_line line)) after fault)))

-- the bytes are no whole chunked body, by this fault
abbrev pub BreaksChunked : List ℕ → Fault → Type 0
BreaksChunked bytes fault =
    (cs : List Chunk) × (text : List ℕ) × Leads bytes cs text × BreaksChunks (room_after cs) (length (content cs)) text fault

-- What the steps of the reading find in the buffer. Only the contracts of private functions speak of this.
use Rattle.std.specs.Prelude.{◌≡◌, ◌≤◌, ℕ, ◌+◌, Bool, false, true, not, ◌&&◌, ◌==◌, if◌then◌else◌, List, [], ◌∷◌, ◌++◌, length, take, drop}
use Rattle.std.specs.List.{AllByRecursion}
use Rattle.httparse.specs.Grammar.{ChunkLine, print_chunk_line, chunk_size}
use Rattle.httparse.specs.Spans.{IsRequestWithin, IsRequestOf}
use Rattle.httparse.specs.declared.spans.HeaderSpan.{HeaderSpan}
use Rattle.httparse.specs.declared.spans.RequestSpans.{RequestSpans}
use Rattle.eu_framing.specs.Message.{max_head}
use Rattle.eu_framing.specs.Fields.{max_body}
use Rattle.eu_framing.specs.Chunks.{Chunk, IsChunk, raw, content, max_raw, HasLine}

-- the bytes are empty lines alone, as a test; the first argument says that a CR stands before them
abbrev pub blank_lines : Bool → List ℕ → Bool
blank_lines cr [] = not cr
blank_lines cr (b ∷ bytes) = if b == 10 then blank_lines false bytes else ((b == 13 && not cr) && blank_lines true bytes)

-- the spans are those of the head at the front
abbrev pub HasHeadAt : List ℕ → List HeaderSpan → RequestSpans → Type 0
HasHeadAt buffer spans r = IsRequestWithin (take max_head buffer) spans r × IsRequestOf (take max_head buffer) spans r

-- the text begins with a chunk line of that length, which announces so much
abbrev pub FindsLine : ℕ → List ℕ → ℕ × ℕ → Type 0
FindsLine room text found = (l : ChunkLine) × HasLine room text l (drop found.0 text) × (found.0 ≡ length (print_chunk_line l)) × (found.1 ≡ chunk_size l)

-- these chunks stand in the buffer from start to at, and their data is the body
pub record Took (start at : ℕ) (buffer body : List ℕ) (cs : List Chunk) : Type 0 where
  pub each : AllByRecursion IsChunk cs
  pub whole : drop start buffer ≡ raw cs ++ drop at buffer
  pub bytes : body ≡ content cs
  pub few : length body ≤ max_body
  pub size : at ≡ start + length (raw cs)
  pub short : length (raw cs) ≤ max_raw
  pub inside : at ≤ length buffer

-- What a script prints, and how it ends.
use Rattle.std.specs.Prelude.{◌≡◌, ◌⊎◌, ℕ, ◌-◌, ◌≤◌, ◌<◌, Bool, true, List, [], ◌∷◌, ◌++◌, length, take, Option, Result, Ok, Err, slice_index_or}
use Rattle.std.specs.Io.KnownBytes.{Appends, IsAtEnd}
use Rattle.eu_lines.specs.declared.limits.Limits.{Limits}
use Rattle.eu_lines.specs.declared.faults.ScriptFault.{ScriptFault}
use Rattle.eu_lines.specs.declared.faults.ScriptFault.TheVariants.{BadLine, Read, Write, OutOfMemory}
use Rattle.eu_lines.specs.Lines.{lines_of, AreWholeLines, IsWithinBound, IsJudged}

-- Where answering stands: the answerer's state, and its context.
pub record Place (S X : Type 0) : Type 0 where
  pub state : S
  pub context : X

abbrev pub place : {S X : Type 0} → S → X → Place S X
place s x = record { state = s; context = x }

-- What became of a script's streams: the bytes that were read, those that are left to read, where that is known, and whether
-- the reader and the writer failed.
pub record Streams : Type 0 where
  pub read : List ℕ
  pub left : Option (List ℕ)
  pub reader_failed : Bool
  pub writer_failed : Bool

-- A writer was written some bytes for which P holds; what it holds grew by them, where that is known.
abbrev pub Wrote : Option (List ℕ) → Option (List ℕ) → (List ℕ → Type 0) → Type 0
Wrote old new P = (out : List ℕ) × Appends old new out × P out

-- `answers before line out after`: an answerer at the place before answers the line: out is printed, and it is at the place after.
module _ {S X : Type 0} (limits : Limits) (answers : Place S X → List ℕ → List ℕ → Place S X → Type 0) where
  -- A line prints out. An empty line prints nothing, and changes nothing.
  abbrev pub Prints : Place S X → List ℕ → List ℕ → Place S X → Type 0
  Prints before [] out after = (out ≡ []) × (after ≡ before)
  Prints before (b ∷ bs) out after = (length (b ∷ bs) ≤ limits.line) × answers before (b ∷ bs) out after

  -- The lines, one after the other, print out.
  abbrev pub Printed : Place S X → List (List ℕ) → List ℕ → Place S X → Type 0
  Printed before [] out after = (out ≡ []) × (after ≡ before)
  Printed before (line ∷ lines) out after =
      (first : List ℕ) × (rest : List ℕ) × (middle : Place S X) × Prints before line first middle × Printed middle lines rest after × (out ≡ first ++ rest)

-- `refuses here line`: an answerer at this place finds the line bad.
module _ {S X : Type 0} (limits : Limits) (refuses : Place S X → List ℕ → Type 0) where
  -- A line is bad: it is too long, or the answerer refuses it. An empty line is never bad.
  abbrev pub IsBad : Place S X → List ℕ → Type 0
  IsBad here [] = ⊥
  IsBad here (b ∷ bs) = (limits.line < length (b ∷ bs)) ⊎ refuses here (b ∷ bs)

module _ {S X : Type 0} (limits : Limits) (answers : Place S X → List ℕ → List ℕ → Place S X → Type 0) (refuses : Place S X → List ℕ → Type 0) where
  -- The answering of these lines, begun at the place before, stopped with a fault and this context, and out was written. `failed` says whether the writer failed.
  abbrev pub StopsIn : Place S X → List (List ℕ) → X → Bool → ScriptFault → List ℕ → Type 0
  -- the lines before the bad one are answered and written, and the context is the one after them
  StopsIn before lines context failed (BadLine n) out =
      (0 < n) × (n ≤ length lines) × (state : S)
      × Printed limits answers before (take (n - 1) lines) out (place state context) × IsBad limits refuses (place state context) (slice_index_or lines (n - 1) [])
  -- some lines are, up to the one that found no memory; that one may have used the context, which is open
  StopsIn before lines context failed OutOfMemory out = (n : ℕ) × (n ≤ length lines) × (middle : Place S X) × Printed limits answers before (take n lines) out middle
  -- Some lines are answered, and a front of what they print is written. The write may have come after a line that found no memory, so the context is open.
  StopsIn before lines context failed Write out =
      (failed ≡ true) × (n : ℕ) × (n ≤ length lines) × (middle : Place S X) × (all : List ℕ) × Printed limits answers before (take n lines) all middle × (k : ℕ) × (out ≡ take k all)
  -- answering reads nothing
  StopsIn before lines context failed Read out = ⊥

  -- What a script did, by its result: it began at the place before and ended at the place after, this became of its streams, and it wrote out.
  abbrev pub Outcome : Place S X → Place S X → Streams → Result (Unit {0}) ScriptFault → List ℕ → Type 0
  -- the whole text is answered, and it is within the bound
  Outcome before after streams (Ok u) out = (length streams.read ≤ limits.text) × IsAtEnd streams.left × Printed limits answers before (lines_of streams.read) out after
  -- the reader failed, or the text is past the bound; the whole lines within the bound are answered
  Outcome before after streams (Err Read) out =
      ((streams.reader_failed ≡ true) ⊎ (limits.text < length streams.read))
      × (text : List ℕ) × IsWithinBound limits.text streams.read text × (front : List ℕ) × AreWholeLines text front × Printed limits answers before (lines_of front) out after
  -- a line is bad, memory ran out, or the writer failed
  Outcome before after streams (Err (BadLine n)) out =
      (front : List ℕ) × IsJudged limits.text streams.left streams.read front × StopsIn before (lines_of front) after.context streams.writer_failed (BadLine n) out
  Outcome before after streams (Err OutOfMemory) out =
      (front : List ℕ) × IsJudged limits.text streams.left streams.read front × StopsIn before (lines_of front) after.context streams.writer_failed OutOfMemory out
  Outcome before after streams (Err Write) out =
      (front : List ℕ) × IsJudged limits.text streams.left streams.read front × StopsIn before (lines_of front) after.context streams.writer_failed Write out

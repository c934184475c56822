-- What the reader of a journal takes of it, line by line
use Rattle.std.specs.Io.KnownBytes.{Consumes, IsAtEnd}
use Rattle.std.specs.Prelude.{◌≡◌, ◌⊎◌, ℕ, ◌-◌, ◌<◌, ◌≤◌, Bool, true, List, [], ◌∷◌, ◌++◌, length, take, slice_index_or, Option, Result, Ok, Err}
use Rattle.std.specs.List.{AllByRecursion}
use Rattle.hex.specs.Hex.{encode_lower}
use Rattle.sha2.specs.Hashers.{Holds256}
use Rattle.sha2.specs.Sha256.{sha256}
use Rattle.eu_lines.specs.Lines.{AreWholeLines, IsJudged, IsWithinBound, lines_of}
use Rattle.eu_lines.specs.Script.{Place}
use Rattle.eu_lines.specs.declared.faults.ScriptFault.{ScriptFault}
use Rattle.eu_lines.specs.declared.faults.ScriptFault.TheVariants as script
use Rattle.eu_journal.specs.declared.lines.JournalLine.{JournalLine}
use Rattle.eu_journal.specs.declared.lines.JournalLine.TheVariants as line
use Rattle.eu_model.specs.declared.commands.Entry.{Entry}
use Rattle.eu_model.specs.declared.states.State.{State}
use Rattle.eu_journal_read.specs.Drafts.{Draft, state_of}
use Rattle.eu_journal_read.specs.Front.{Front}
use Rattle.eu_journal_read.specs.Said.{IsReadAs, filled, joined, journal_limits}
use Rattle.eu_journal_read.specs.Stages.{take_line}
use Rattle.eu_journal_read.specs.declared.reader.JournalReader.{JournalReader}
use Rattle.eu_journal_read.specs.declared.stages.Stage.{Stage}
use Rattle.eu_journal_read.specs.declared.stages.Stage.TheVariants as stage

-- a digest is that of the bytes before it, the prefix
abbrev pub IsFit : List ℕ → JournalLine → Type 0
IsFit prefix (line.Digest text) = text ≡ encode_lower (sha256 prefix)
IsFit prefix _ = Unit {0}

-- A line may follow this prefix, from one stage to another
abbrev pub Follows : List ℕ → Stage → List ℕ → Stage → Type 0
Follows prefix s text t = (l : JournalLine) × IsReadAs text l × (take_line s l ≡ Ok t) × IsFit prefix l

-- Lines may follow this prefix, one after the other, from one stage to another
abbrev pub Reads : Stage → List ℕ → List (List ℕ) → Stage → Type 0
Reads s prefix [] t = t ≡ s
Reads s prefix (text ∷ texts) t = (u : Stage) × Follows prefix s text u × Reads u (prefix ++ (text ++ 10 ∷ [])) texts t

-- Lines may begin a journal, up to a stage: those that aren't empty may follow one another, and none of them is too long
abbrev pub Begins : List (List ℕ) → Stage → Type 0
Begins lines s = Reads stage.Empty [] (filled lines) s × AllByRecursion (λ (line : List ℕ). length line ≤ journal_limits.line) (filled lines)

-- The line of this number, from 1, is the first that isn't one of a journal: those before it may begin one, and it isn't empty, but is too long
-- or may not follow them
abbrev pub IsFirstBad : List (List ℕ) → ℕ → Type 0
IsFirstBad lines n =
    (0 < n) × (n ≤ length lines)
    × (s : Stage) × Begins (take (n - 1) lines) s
    × (let line = slice_index_or lines (n - 1) [] in
    (0 < length line) × ((journal_limits.line < length line) ⊎ ((t : Stage) → Follows (joined (filled (take (n - 1) lines))) s line t → ⊥)))

-- a reader takes a line; it prints nothing
abbrev pub Takes : Place JournalReader (Unit {0}) → List ℕ → List ℕ → Place JournalReader (Unit {0}) → Type 0
Takes before text out after =
    (out ≡ [])
    × ((prefix : List ℕ) → Holds256 before.state.hasher prefix
    → Follows prefix before.state.stage text after.state.stage × Holds256 after.state.hasher (prefix ++ (text ++ 10 ∷ [])))

-- a reader refuses a line: it may not follow
abbrev pub Refuses : Place JournalReader (Unit {0}) → List ℕ → Type 0
Refuses here text = (prefix : List ℕ) → Holds256 here.state.hasher prefix → (t : Stage) → Follows prefix here.state.stage text t → ⊥

-- none of the whole lines that were read, of as many bytes as a journal may have, is bad
abbrev pub HasNoBad : List ℕ → Type 0
HasNoBad read = (text : List ℕ) × IsWithinBound journal_limits.text read text × (front : List ℕ) × AreWholeLines text front × (s : Stage) × Begins (lines_of front) s

-- What came of the lines of a text, by what was read of it and what is left: the stage after all of them, or why they weren't all taken
unfoldable pub CameTo : Option (List ℕ) → Bool → List ℕ → Result Stage ScriptFault → Type 0
CameTo left failed read (Ok s) =
    (length read ≤ journal_limits.text) × IsAtEnd left × Begins (lines_of read) s
CameTo left failed read (Err (script.BadLine n)) = (front : List ℕ) × IsJudged journal_limits.text left read front × IsFirstBad (lines_of front) n
CameTo left failed read (Err script.Read) = ((failed ≡ true) ⊎ (journal_limits.text < length read)) × HasNoBad read
CameTo left failed read (Err script.Write) = ⊥
CameTo left failed read (Err script.OutOfMemory) = Unit {0}

-- ---- the end

-- nothing says that the journal is whole
unfoldable pub IsUnsealed : Stage → Type 0
IsUnsealed s = (f : Front) (d : Draft) → s ≡ stage.Sealed f d → ⊥

-- the journal is whole, and it is this one
unfoldable pub EndsIn : Stage → State → List Entry → State → Type 0
EndsIn s base entries end = (f : Front) × (d : Draft) × (s ≡ stage.Sealed f d) × (base ≡ state_of f.base) × (entries ≡ f.entries) × (end ≡ state_of d)

-- ---- why a journal isn't read, by what was left to be read before and after

-- of the lines of a front of what was read, that of this number, from 1, is the first that isn't one of a journal
abbrev pub TellsLine : Option (List ℕ) → Option (List ℕ) → ℕ → Type 0
TellsLine old new n = (read : List ℕ) × Consumes old new read × (front : List ℕ) × IsJudged journal_limits.text new read front × IsFirstBad (lines_of front) n

-- all was read, it is no more than a journal may be, and its lines may begin one, but none of them is the last one of a journal
abbrev pub EndsBefore : Option (List ℕ) → Option (List ℕ) → Type 0
EndsBefore old new =
    (text : List ℕ) × Consumes old new text × IsAtEnd new × (length text ≤ journal_limits.text)
    × (s : Stage) × Begins (lines_of text) s × IsUnsealed s

-- the reader failed, or gave more than a journal may have; no line of what it gave is bad
abbrev pub FailsToRead : Option (List ℕ) → Option (List ℕ) → Bool → Type 0
FailsToRead old new failed = (read : List ℕ) × Consumes old new read × ((failed ≡ true) ⊎ (journal_limits.text < length read)) × HasNoBad read

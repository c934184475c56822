-- What is read of what was written
use Rattle.std.specs.Prelude.{◌≡◌, ◌≤◌, ℕ, List, [], ◌∷◌, ◌++◌, length}
use Rattle.std.specs.List.{AllByRecursion}
use Rattle.serde_json.specs.Data.{depth}
use Rattle.serde_json.specs.Read.{max_depth}
use Rattle.serde_json.specs.Written.{compact_text}
use Rattle.eu_model.specs.declared.commands.Entry.{Entry}
use Rattle.eu_model.specs.declared.states.State.{State}
use Rattle.eu_journal.specs.Law.{IsLine}
use Rattle.eu_journal.specs.Lines.{line_tree}
use Rattle.eu_journal.specs.declared.lines.JournalLine.{JournalLine}
use Rattle.eu_journal_text.specs.Text.{IsReadBack, journal_lines, journal_text, lines_text, seal_line}
use Rattle.eu_journal_read.specs.Said.{SaysJournal, journal_limits}

-- all lines of a journal, that of the digest too
abbrev pub all_lines : State → List Entry → State → List JournalLine
all_lines base entries end = journal_lines base entries end ++ seal_line (lines_text (journal_lines base entries end)) ∷ []

-- a line nests no deeper than is read
abbrev pub IsShallow : JournalLine → Type 0
IsShallow l = depth (line_tree l) ≤ max_depth

-- a line is no longer than is read
abbrev pub IsShort : JournalLine → Type 0
IsShort l = length (compact_text (line_tree l)) ≤ journal_limits.line

-- A journal that was written, of values that the types hold, says itself, and no other, if it is no longer and no deeper than is read
abbrev pub JournalsComeBack : Type 0
JournalsComeBack =
    (base : State) (entries : List Entry) (end : State)
    → let lines = all_lines base entries end in
    AllByRecursion IsLine lines → AllByRecursion IsReadBack lines → AllByRecursion IsShallow lines → AllByRecursion IsShort lines
    → length (journal_text base entries end) ≤ journal_limits.text → SaysJournal (journal_text base entries end) base entries end

-- A text says one journal at most
abbrev pub OneJournal : Type 0
OneJournal = (text : List ℕ) (base : State) (entries : List Entry) (end base' : State) (entries' : List Entry) (end' : State)
    → SaysJournal text base entries end → SaysJournal text base' entries' end' → (base ≡ base') × (entries ≡ entries') × (end ≡ end')

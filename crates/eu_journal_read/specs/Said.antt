-- What a journal's text says
use Rattle.std.specs.Prelude.{◌≡◌, ◌≤◌, ℕ, List, [], ◌∷◌, ◌++◌, length, Ok}
use Rattle.std.specs.List.{AllByRecursion}
use Rattle.std.specs.Str.{IsUtf8}
use Rattle.eu_lines.specs.Lines.{lines_of}
use Rattle.eu_lines.specs.declared.limits.Limits.{Limits}
use Rattle.eu_model.specs.declared.commands.Entry.{Entry}
use Rattle.eu_model.specs.declared.states.State.{State}
use Rattle.eu_journal.specs.Law.{bare_line}
use Rattle.eu_journal.specs.declared.lines.JournalLine.{JournalLine}
use Rattle.eu_journal_text.specs.Line.{line_in}
use Rattle.eu_journal_text.specs.Text.{journal_lines, seal_line}

-- the most bytes of a line of a journal, and of a journal: 2^24 and 2^40
abbrev pub journal_limits : Limits
journal_limits = record { line = 16777216; text = 1099511627776 }

abbrev pub unless_empty : List ℕ → List (List ℕ) → List (List ℕ)
unless_empty [] lines = lines
unless_empty (b ∷ bs) lines = (b ∷ bs) ∷ lines

-- the lines that aren't empty
abbrev pub filled : List (List ℕ) → List (List ℕ)
filled [] = []
filled (line ∷ lines) = unless_empty line (filled lines)

-- these lines, each with its end
abbrev pub joined : List (List ℕ) → List ℕ
joined [] = []
joined (line ∷ lines) = (line ++ 10 ∷ []) ++ joined lines

-- a text is read as this line
unfoldable pub IsReadAs : List ℕ → JournalLine → Type 0
IsReadAs text l = IsUtf8 text × (line_in text ≡ Ok l)

-- A text says a line of a journal: it is read as that line; victims and tasks don't count, since they have lines of their own
abbrev pub SaysLine : List ℕ → JournalLine → Type 0
SaysLine text l = (found : JournalLine) × IsReadAs text found × (bare_line found ≡ bare_line l)

-- these texts say these lines, one each
abbrev pub SayLines : List (List ℕ) → List JournalLine → Type 0
SayLines [] [] = Unit {0}
SayLines [] (l ∷ ls) = ⊥
SayLines (text ∷ texts) [] = ⊥
SayLines (text ∷ texts) (l ∷ ls) = SaysLine text l × SayLines texts ls

-- A text says a journal. Of its lines that aren't empty the last says the digest of all before it, and those say the journal's lines, in
-- their order. The text and its lines are no longer than a journal's may be
pub record SaysJournal (text : List ℕ) (base : State) (entries : List Entry) (end : State) : Type 0 where
  pub lines : List (List ℕ)
  pub last : List ℕ
  pub whole : filled (lines_of text) ≡ lines ++ last ∷ []
  pub said : SayLines lines (journal_lines base entries end)
  pub seal : SaysLine last (seal_line (joined lines))
  pub short : length text ≤ journal_limits.text
  pub short_lines : AllByRecursion (λ (line : List ℕ). length line ≤ journal_limits.line) (lines ++ last ∷ [])

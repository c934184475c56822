-- What the text of a line says
use Rattle.std.specs.Prelude.{◌≡◌, ℕ, List, Some, Result, Ok}
use Rattle.serde_json.specs.Read.{read}
use Rattle.eu_base.specs.Gives.{◌>>=◌}
use Rattle.eu_journal.specs.Law.{IsLine, bare_line}
use Rattle.eu_journal.specs.LineReading.{line_of}
use Rattle.eu_journal.specs.Lines.{line_tree}
use Rattle.eu_journal_values.specs.Members.{needed}
use Rattle.eu_journal_values.specs.declared.faults.LineFault.{LineFault}
use Rattle.eu_journal.specs.declared.lines.JournalLine.{JournalLine}

-- what its JSON says
abbrev pub line_in : List ℕ → Result JournalLine LineFault
line_in text = needed (read text) >>= line_of

abbrev pub LineTextsComeBack : Type 0
LineTextsComeBack = (l : JournalLine) (text : List ℕ) → IsLine l → read text ≡ Some (line_tree l) → line_in text ≡ Ok (bare_line l)

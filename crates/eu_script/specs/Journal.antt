-- What a script leaves of its journal
use Rattle.std.specs.Prelude.{◌≡◌, ◌⊎◌, ℕ, Bool, true, List, [], take, Option, Some, None, Result, Ok, Err}
use Rattle.eu_base.specs.declared.settings.Config.{Config}
use Rattle.eu_book.specs.Peers.{state_of}
use Rattle.eu_journal_text.specs.Text.{journal_text}
use Rattle.eu_lines.specs.declared.faults.ScriptFault.{ScriptFault}
use Rattle.eu_lines.specs.declared.faults.ScriptFault.TheVariants.{Write}
use Rattle.eu_lines.specs.Lines.{script_limits}
use Rattle.eu_lines.specs.Script.{Streams, Outcome, place}
use Rattle.eu_model.specs.declared.commands.Entry.{Entry}
use Rattle.eu_model.specs.Server.{PlainServer, plain_server}
use Rattle.eu_script.specs.Audit.{Journals}
use Rattle.eu_script.specs.Script.{Ran, Answers, Refuses, ScriptRuns}

-- The text of a run's journal: its base, its entries, and where the run ended. A registry that wasn't opened has none, and nothing is written
abbrev pub IsTextOf : Option Ran → List ℕ → Type 0
IsTextOf None text = text ≡ []
IsTextOf (Some r) text =
    (base : PlainServer) × (entries : List Entry) × Journals r base entries
    × (text ≡ journal_text (state_of base) entries (state_of (plain_server r.server)))

-- A script of these settings, by its chooser before and after, what became of its streams, and what it wrote of what its lines print
module _ {C : Type 0} (config : Config) (asks : C → ℕ → ℕ × C) (x x' : C) (streams : Streams) (out : List ℕ) where
  -- it was answered whole, and this is the text of its journal
  abbrev pub IsText : List ℕ → Type 0
  IsText text = (end : Option Ran) × Outcome script_limits (Answers config asks) Refuses (place None x) (place end x') streams (Ok tt) out × IsTextOf end text

  -- What such a script wrote to its journal, by its result. The flag says whether the journal's writer failed
  abbrev pub JournalRuns : Bool → Result (Unit {0}) ScriptFault → List ℕ → Type 0
  JournalRuns failed (Ok u) text = IsText text
  -- a line's write failed, and nothing is in the journal; or the script was answered whole, and a front of its text is
  JournalRuns failed (Err Write) text =
      (ScriptRuns config asks x x' streams (Err Write) out × (text ≡ []))
      ⊎ ((failed ≡ true) × (whole : List ℕ) × IsText whole × (k : ℕ) × (text ≡ take k whole))
  -- the script ended by that fault, or there was no memory for the text; nothing is in the journal
  JournalRuns failed (Err fault) text = ScriptRuns config asks x x' streams (Err fault) out × (text ≡ [])

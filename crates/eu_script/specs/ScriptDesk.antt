-- A desk, which keeps the account of a book, against a run of the server
use Rattle.std.specs.Prelude.{◌≡◌, ◌↔◌, ℕ, Bool, true, IsTrue, List, [], length, take, Option, Some, None, Result, Ok, Err}
use Rattle.eu_audit.specs.PlainForm.{IsRun}
use Rattle.eu_base.specs.declared.settings.Config.{Config}
use Rattle.eu_book.specs.Account.{Account}
use Rattle.eu_book.specs.Peers.{state_of}
use Rattle.eu_lines.specs.declared.faults.ScriptFault.{ScriptFault}
use Rattle.eu_lines.specs.declared.faults.ScriptFault.TheVariants.{OutOfMemory, Write}
use Rattle.eu_lines.specs.Lines.{script_limits}
use Rattle.eu_lines.specs.Script.{Place, Streams, Outcome, place}
use Rattle.eu_journal_text.specs.Text.{journal_text}
use Rattle.eu_model.specs.declared.commands.Command.{Command}
use Rattle.eu_model.specs.Server.{plain_server}
use Rattle.eu_script.specs.declared.desk.ScriptDesk.{ScriptDesk}
use Rattle.eu_script.specs.Audit.{Journals}
use Rattle.eu_script.specs.Script.{Ran, Answers, Refuses, ScriptRuns, Does, SaysClosed, SaysOpened}
use Rattle.eu_words.specs.declared.lines.Line.{Line}

-- the account is that of this run: it has the number of its entries, the plain form of the server, and the run's journal
pub record Holds (a : Account) (r : Ran) : Type 0 where
  pub steps : a.totals.steps ≡ length r.entries
  pub state : a.state ≡ plain_server r.server
  pub journal : Journals r a.base a.entries

-- the same; None where none is open
abbrev pub HoldsRun : Option Account → Option Ran → Type 0
HoldsRun None None = Unit {0}
HoldsRun (Some a) (Some r) = Holds a r
HoldsRun None (Some r) = ⊥
HoldsRun (Some a) None = ⊥

-- the desk keeps the account of this run
abbrev pub Keeps : ScriptDesk → Option Ran → Type 0
Keeps d s = HoldsRun d.book s

-- From each run whose account the desk keeps, the line of this text is answered so, and the account of the run after is kept
abbrev pub DeskAnswers : {C : Type 0} → (C → ℕ → ℕ × C) → Place ScriptDesk C → List ℕ → List ℕ → Place ScriptDesk C → Type 0
DeskAnswers asks before text out after =
    (after.state.config ≡ before.state.config)
    × ((s : Option Ran) → Keeps before.state s
    → (end : Option Ran) × Answers before.state.config asks (place s before.context) text out (place end after.context) × Keeps after.state end)

-- each of those runs refuses the line
abbrev pub DeskRefuses : {C : Type 0} → Place ScriptDesk C → List ℕ → Type 0
DeskRefuses here text = (s : Option Ran) → Keeps here.state s → Refuses (place s here.context) text

-- before the registry is open, a line is answered so, and the account of the run that it begins is kept
abbrev pub ClosedAnswers : ScriptDesk → Line → List ℕ → ScriptDesk → Type 0
ClosedAnswers d line out d' = (next : Ran) × SaysClosed d.config line out next × (d'.config ≡ d.config) × Keeps d' (Some next)

-- from each run of the account before, an open book with a chooser answers a line so, and the account after is that of the run then
abbrev pub OpenedAnswers : {C : Type 0} → (C → ℕ → ℕ × C) → Line → Place Account C → List ℕ → Place Account C → Type 0
OpenedAnswers asks line before out after =
    (r : Ran) → Holds before.state r → (next : Ran) × SaysOpened asks line (place r before.context) out (place next after.context) × Holds after.state next

-- from each run of the account before, a book with a chooser does a command at a moment so, and the account after is that of the run then
abbrev pub AccountDoes : {C : Type 0} → (C → ℕ → ℕ × C) → Place Account C → Command → ℕ → List ℕ → Place Account C → Type 0
AccountDoes asks before c t out after =
    (r : Ran) → Holds before.state r → (next : Ran) × Does asks (place r before.context) c t out (place next after.context) × Holds after.state next

-- the auditor's answer on the journal of an account, and the number of its entries; where there is none, yes and 0
abbrev pub Audits : Option Account → Bool → ℕ → Type 0
Audits None answer n = (answer ≡ true) × (n ≡ 0)
Audits (Some a) answer n = (n ≡ length a.entries) × (IsTrue answer ↔ IsRun (state_of a.base) a.entries (state_of a.state))

-- the text of the journal of an account; where there is none, nothing
abbrev pub text_of : Option Account → List ℕ
text_of None = []
text_of (Some a) = journal_text (state_of a.base) a.entries (state_of a.state)

-- A text was written: all of it, or a front, where the writer failed; and nothing where there was no memory for it
abbrev pub Writes : List ℕ → Bool → Result (Unit {0}) ScriptFault → List ℕ → Type 0
Writes text failed (Ok u) out = out ≡ text
Writes text failed (Err Write) out = (failed ≡ true) × (k : ℕ) × (out ≡ take k text)
Writes text failed (Err OutOfMemory) out = out ≡ []
Writes text failed (Err _) out = ⊥

-- A script ended so: with a desk that keeps the account of its run, or by a fault. It wrote out
module _ {C : Type 0} (config : Config) (asks : C → ℕ → ℕ × C) (x x' : C) (streams : Streams) where
  abbrev pub Leaves : Result ScriptDesk ScriptFault → List ℕ → Type 0
  Leaves (Ok d) out = (end : Option Ran) × Outcome script_limits (Answers config asks) Refuses (place None x) (place end x') streams (Ok tt) out × Keeps d end
  Leaves (Err fault) out = ScriptRuns config asks x x' streams (Err fault) out

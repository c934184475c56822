-- What an audit of a journal tells
use Rattle.std.specs.Io.KnownBytes.{Consumes, IsAtEnd}
use Rattle.std.specs.Prelude.{◌≡◌, ◌⊎◌, ◌↔◌, ℕ, Bool, true, IsTrue, List, [], length, take, Option, Some, Result, Ok, Err}
use Rattle.eu_audit.specs.PlainForm.{IsRun}
use Rattle.eu_journal_read.specs.Reader.{EndsBefore, FailsToRead, TellsLine}
use Rattle.eu_journal_read.specs.Said.{SaysJournal}
use Rattle.eu_model.specs.declared.commands.Entry.{Entry}
use Rattle.eu_model.specs.declared.states.State.{State}
use Rattle.eu_script.specs.Audit.{audit_text}
use Rattle.eu_script.specs.declared.desk.Verdict.{Verdict}
use Rattle.eu_journal_audit.specs.declared.faults.AuditFault.{AuditFault}
use Rattle.eu_journal_audit.specs.declared.faults.AuditFault.TheVariants as fault

-- A text says a journal of n entries, and the answer is whether they are a run of the lease machine from its base to its end
abbrev pub IsVerdictOf : List ℕ → Bool → ℕ → Type 0
IsVerdictOf text answer n =
    (base : State) × (entries : List Entry) × (end : State) × SaysJournal text base entries end × (n ≡ length entries) × (IsTrue answer ↔ IsRun base entries end)

-- A fault that says nothing of the text: there was no memory, or the reader or the writer failed
abbrev pub IsNoReason : AuditFault → Bool → Bool → Type 0
IsNoReason f reader_failed writer_failed =
    (f ≡ fault.OutOfMemory) ⊎ (((f ≡ fault.Read) × (reader_failed ≡ true)) ⊎ ((f ≡ fault.Write) × (writer_failed ≡ true)))

-- An audit, by what was left to be read before and after
module _ (old new : Option (List ℕ)) where
  -- all was read, and this line tells the answer
  abbrev pub TellsAnswer : List ℕ → Bool → Type 0
  TellsAnswer line answer = (text : List ℕ) × Consumes old new text × IsAtEnd new × (n : ℕ) × IsVerdictOf text answer n × (line ≡ audit_text answer n)

  -- What the auditor came to. Only the contract of a private function speaks of this
  abbrev pub Judged : Bool → Result Verdict AuditFault → Type 0
  Judged reader_failed (Ok v) = (text : List ℕ) × Consumes old new text × IsAtEnd new × IsVerdictOf text v.is_run v.entries
  Judged reader_failed (Err (fault.BadLine n)) = TellsLine old new n
  Judged reader_failed (Err fault.EndsEarly) = EndsBefore old new
  Judged reader_failed (Err fault.Read) = FailsToRead old new reader_failed
  Judged reader_failed (Err fault.Write) = ⊥
  Judged reader_failed (Err fault.OutOfMemory) = Unit {0}

  -- What an audit did, by its result: it wrote out. The flags say whether reader and writer failed
  abbrev pub AuditsJournal : Bool → Bool → Result Bool AuditFault → List ℕ → Type 0
  AuditsJournal reader_failed writer_failed (Ok answer) out = TellsAnswer out answer
  -- a front of the line is written
  AuditsJournal reader_failed writer_failed (Err fault.Write) out =
      (writer_failed ≡ true) × (answer : Bool) × (line : List ℕ) × TellsAnswer line answer × (k : ℕ) × (out ≡ take k line)
  -- the journal isn't read; nothing is written
  AuditsJournal reader_failed writer_failed (Err (fault.BadLine n)) out = (out ≡ []) × TellsLine old new n
  AuditsJournal reader_failed writer_failed (Err fault.EndsEarly) out = (out ≡ []) × EndsBefore old new
  AuditsJournal reader_failed writer_failed (Err fault.Read) out = (out ≡ []) × FailsToRead old new reader_failed
  AuditsJournal reader_failed writer_failed (Err fault.OutOfMemory) out = out ≡ []

-- a text that says a journal is refused for no reason of its own
abbrev pub RefusesNone : Option (List ℕ) → Bool → Bool → Result Bool AuditFault → Type 0
RefusesNone old reader_failed writer_failed (Ok answer) = Unit {0}
RefusesNone old reader_failed writer_failed (Err f) =
    (text : List ℕ) (base : State) (entries : List Entry) (end : State) → old ≡ Some text → SaysJournal text base entries end → IsNoReason f reader_failed writer_failed

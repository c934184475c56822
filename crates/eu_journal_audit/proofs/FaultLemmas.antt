-- The faults of an audit are those of the journal that isn't read, and of the line that isn't written
use Rattle.std.proofs.Common.{◌≡◌, ◌⊎◌, ℕ, Bool, true, List, [], Option, Result, Ok, Err, ap, inl, inr, refl}
use Rattle.eu_journal_audit.specs.Audit.{AuditsJournal, IsNoReason, IsVerdictOf, Judged, TellsAnswer}
use Rattle.eu_journal_audit.specs.Faults.{fault_of, script_fault_of}
use Rattle.eu_journal_audit.specs.declared.faults.AuditFault.{AuditFault}
use Rattle.eu_journal_audit.specs.declared.faults.AuditFault.TheVariants as fault
use Rattle.eu_journal_read.specs.Reader.{EndsBefore, FailsToRead, TellsLine}
use Rattle.eu_journal_read.specs.declared.faults.JournalFault.{JournalFault}
use Rattle.eu_journal_read.specs.declared.faults.JournalFault.TheVariants as journal
use Rattle.eu_journal_read.specs.declared.journal.Recorded.{Recorded}
use Rattle.eu_lines.specs.declared.faults.ScriptFault.{ScriptFault}
use Rattle.eu_lines.specs.declared.faults.ScriptFault.TheVariants as script
use Rattle.eu_script.specs.Audit.{audit_text}
use Rattle.eu_script.specs.ScriptDesk.{Writes}
use Rattle.eu_script.specs.declared.desk.Verdict.{Verdict}

abbrev pub unread : JournalFault → Result Recorded JournalFault
unread j = Err j

-- a fault that doesn't tell of the reader is no failed read; the same of the writer
pub other_read : (j : JournalFault) → (fault_of j ≡ fault.Read → ⊥) → j ≡ journal.Read → ⊥
other_read j other is = other (ap fault_of is)

pub other_write : (f : ScriptFault) → (script_fault_of f ≡ fault.Write → ⊥) → f ≡ script.Write → ⊥
other_write f other is = other (ap script_fault_of is)

pub carried : (j : JournalFault) (F : Type 0) → (j ≡ journal.OutOfMemory) ⊎ ((j ≡ journal.Read) × F) → (fault_of j ≡ fault.OutOfMemory) ⊎ ((fault_of j ≡ fault.Read) × F)
carried j F (inl e) = inl (ap fault_of e)
carried j F (inr (e, f)) = inr (ap fault_of e, f)

-- a fault of the reading says nothing of the text either
pub no_reason : (f : AuditFault) (reader_failed writer_failed : Bool) → (f ≡ fault.OutOfMemory) ⊎ ((f ≡ fault.Read) × (reader_failed ≡ true)) → IsNoReason f reader_failed writer_failed
no_reason f reader_failed writer_failed (inl memory) = inl memory
no_reason f reader_failed writer_failed (inr read) = inr (inl read)

-- nor does one of the line's writing
pub line_reason : (text out : List ℕ) (f : ScriptFault) (reader_failed writer_failed : Bool) → Writes text writer_failed (Err f) out → IsNoReason (script_fault_of f) reader_failed writer_failed
line_reason text out (script.BadLine n) reader_failed writer_failed is = absurd is
line_reason text out script.Read reader_failed writer_failed is = absurd is
line_reason text out script.Write reader_failed writer_failed is = inr (inr (refl, is.0))
line_reason text out script.OutOfMemory reader_failed writer_failed is = inl refl

module _ (old new : Option (List ℕ)) (reader_failed : Bool) where
  -- a journal that isn't read
  pub not_read : (j : JournalFault)
      → ((n : ℕ) → unread j ≡ Err (journal.BadLine n) → TellsLine old new n) → (unread j ≡ Err journal.EndsEarly → EndsBefore old new) → (unread j ≡ Err journal.Read → FailsToRead old new reader_failed)
      → Judged old new reader_failed (Err (fault_of j))
  not_read (journal.BadLine n) line early read = line n refl
  not_read journal.EndsEarly line early read = early refl
  not_read journal.Read line early read = read refl
  not_read journal.OutOfMemory line early read = tt

  module _ (writer_failed : Bool) where
    -- nothing is told of what wasn't judged
    pub untold : (f : AuditFault) → Judged old new reader_failed (Err f) → AuditsJournal old new reader_failed writer_failed (Err f) []
    untold (fault.BadLine n) is = (refl, is)
    untold fault.EndsEarly is = (refl, is)
    untold fault.Read is = (refl, is)
    untold fault.Write is = absurd is
    untold fault.OutOfMemory is = refl

    module _ (v : Verdict) (judged : Judged old new reader_failed (Ok v)) where
      -- the line is the answer of the audit
      pub told : (line : List ℕ) → Writes (audit_text v.is_run v.entries) writer_failed (Ok tt) line → AuditsJournal old new reader_failed writer_failed (Ok v.is_run) line
      told line is = (judged.0, judged.1, judged.2, v.entries, judged.3, is)

      -- a front of the line is written, or nothing
      pub told_short : (f : ScriptFault) (out : List ℕ) → Writes (audit_text v.is_run v.entries) writer_failed (Err f) out → AuditsJournal old new reader_failed writer_failed (Err (script_fault_of f)) out
      told_short (script.BadLine n) out is = absurd is
      told_short script.Read out is = absurd is
      told_short script.Write out is = (is.0, v.is_run, _, told _ refl, is.1, is.2)
      told_short script.OutOfMemory out is = is

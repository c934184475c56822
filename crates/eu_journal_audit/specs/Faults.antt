-- Why a journal isn't audited
use Rattle.eu_journal_read.specs.declared.faults.JournalFault.{JournalFault}
use Rattle.eu_journal_read.specs.declared.faults.JournalFault.TheVariants as journal
use Rattle.eu_journal_audit.specs.declared.faults.AuditFault.{AuditFault}
use Rattle.eu_journal_audit.specs.declared.faults.AuditFault.TheVariants.{BadLine, EndsEarly, Read, Write, OutOfMemory}
use Rattle.eu_lines.specs.declared.faults.ScriptFault.{ScriptFault}
use Rattle.eu_lines.specs.declared.faults.ScriptFault.TheVariants as script

-- as it isn't read
abbrev pub fault_of : JournalFault → AuditFault
fault_of (journal.BadLine n) = BadLine n
fault_of journal.EndsEarly = EndsEarly
fault_of journal.Read = Read
fault_of journal.OutOfMemory = OutOfMemory

-- as its line isn't written
abbrev pub script_fault_of : ScriptFault → AuditFault
script_fault_of (script.BadLine n) = BadLine n
script_fault_of script.Read = Read
script_fault_of script.Write = Write
script_fault_of script.OutOfMemory = OutOfMemory

-- Why a journal isn't read
use Rattle.eu_lines.specs.declared.faults.ScriptFault.{ScriptFault}
use Rattle.eu_lines.specs.declared.faults.ScriptFault.TheVariants as script
use Rattle.eu_journal_read.specs.declared.faults.JournalFault.{JournalFault}
use Rattle.eu_journal_read.specs.declared.faults.JournalFault.TheVariants as fault

-- by why its lines weren't all taken; nothing is written
abbrev pub fault_of : ScriptFault → JournalFault
fault_of (script.BadLine n) = fault.BadLine n
fault_of script.Read = fault.Read
fault_of script.Write = fault.Read
fault_of script.OutOfMemory = fault.OutOfMemory

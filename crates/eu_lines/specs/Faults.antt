-- Faults of lines and of scripts.
use Rattle.std.specs.Prelude.{ℕ}
use Rattle.eu_lines.specs.declared.faults.LineError.{LineError}
use Rattle.eu_lines.specs.declared.faults.LineError.TheVariants as line_errors
use Rattle.eu_lines.specs.declared.faults.ScriptFault.{ScriptFault}
use Rattle.eu_lines.specs.declared.faults.ScriptFault.TheVariants.{BadLine, OutOfMemory}

-- the fault of a script whose line of this number was not answered
abbrev pub fault_at : LineError → ℕ → ScriptFault
fault_at line_errors.Bad n = BadLine n
fault_at line_errors.OutOfMemory n = OutOfMemory

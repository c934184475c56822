-- Codes that are read one after another
use Rattle.std.proofs.Common.{ℕ, List, ◌++◌, Result, Ok, Err}
use Rattle.eu_journal_values.specs.declared.faults.LineFault.{LineFault}

-- what was read before, and what is read of the rest
abbrev pub onto : List ℕ → Result (List ℕ) LineFault → Result (List ℕ) LineFault
onto done (Ok more) = Ok (done ++ more)
onto done (Err f) = Err f

-- What is read, and how it is told from what a call answers
use Rattle.std.specs.Prelude.{◌≡◌, Result, Ok, Err}
use Rattle.eu_base.specs.Gives.{GivesBut}
use Rattle.eu_journal_values.specs.declared.faults.LineFault.{LineFault}
use Rattle.eu_journal_values.specs.declared.faults.LineFault.TheVariants.{OutOfMemory}

-- what was answered, seen by the view, is what is defined
abbrev pub Equals : {X Y : Type 0} → (X → Y) → Result X LineFault → Result Y LineFault → Type 0
Equals view (Ok x) defined = defined ≡ Ok (view x)
Equals view (Err f) defined = defined ≡ Err f

-- what was answered is what is defined, unless memory ran out
abbrev pub Gives : {X : Type 0} → Result X LineFault → Result X LineFault → Type 0
Gives = GivesBut OutOfMemory

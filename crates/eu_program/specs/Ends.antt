-- By which exit status a run ends
use Rattle.std.specs.Prelude.{ℕ}
use Rattle.eu_program.specs.declared.end.End.{End}
use Rattle.eu_program.specs.declared.end.End.TheVariants.{Done, AnsweredNo, BadLine, NotWhole, Failed}

-- 2 for what was put in, 3 for any other fault and where an audit's answer is no
abbrev pub status_of : End → ℕ
status_of Done = 0
status_of AnsweredNo = 3
status_of (BadLine line) = 2
status_of NotWhole = 2
status_of (Failed fault) = 3

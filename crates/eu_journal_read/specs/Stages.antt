-- How far a journal was read, and which line may follow
use Rattle.std.specs.Prelude.{Option, Some, None, [], ◌∷◌, ◌++◌, Result, Ok, Err}
use Rattle.eu_base.specs.Gives.{◌>>=◌}
use Rattle.eu_journal_values.specs.declared.faults.LineFault.{LineFault}
use Rattle.eu_journal_values.specs.declared.faults.LineFault.TheVariants.{NotALine}
use Rattle.eu_journal.specs.declared.lines.Head.{Head}
use Rattle.eu_journal.specs.declared.lines.JournalLine.{JournalLine}
use Rattle.eu_journal.specs.declared.lines.JournalLine.TheVariants as line
use Rattle.eu_journal_read.specs.Drafts.{Draft, begun, state_more, answered, entry_more}
use Rattle.eu_journal_read.specs.Front.{Front}
use Rattle.eu_journal_read.specs.declared.entries.Asked.{Asked}
use Rattle.eu_journal_read.specs.declared.stages.Stage.{Stage}
use Rattle.eu_journal_read.specs.declared.stages.Stage.TheVariants as stage

-- the base and the entries before the next line, where no entry lacks its reply
abbrev pub closed : Stage → Result Front LineFault
closed (stage.Base d) = Ok (record { base = d; entries = [] })
closed (stage.Answered f e) = Ok (record { base = f.base; entries = f.entries ++ e ∷ [] })
closed _ = Err NotALine

-- the first line of a state begins the base, or the end
abbrev pub take_head : Stage → Head → Result Stage LineFault
take_head stage.Empty h = Ok (stage.Base (begun h))
take_head s h = closed s >>= (λ f. Ok (stage.End f (begun h)))

-- an entry begins after the base and whole entries
abbrev pub take_asked : Stage → Asked → Result Stage LineFault
take_asked s a = closed s >>= (λ f. Ok (stage.Asked f a))

-- a line of a state belongs to the base, or to the end
abbrev pub take_of_state : Stage → JournalLine → Result Stage LineFault
take_of_state (stage.Base d) l = state_more d l >>= (λ more. Ok (stage.Base more))
take_of_state (stage.End f d) l = state_more d l >>= (λ more. Ok (stage.End f more))
take_of_state _ l = Err NotALine

-- the state that is read, and what came before it where it is the end
abbrev pub state_read : Stage → Result (Option Front × Draft) LineFault
state_read (stage.Base d) = Ok (None, d)
state_read (stage.End f d) = Ok (Some f, d)
state_read _ = Err NotALine

-- the stage at which a state is read, behind that front where it is the end
abbrev pub with_state : Option Front → Draft → Stage
with_state None d = stage.Base d
with_state (Some f) d = stage.End f d

-- a victim and a task belong to the newest entry
abbrev pub take_of_entry : Stage → JournalLine → Result Stage LineFault
take_of_entry (stage.Answered f e) l = entry_more e l >>= (λ more. Ok (stage.Answered f more))
take_of_entry _ l = Err NotALine

-- which line may follow, and how far the journal was read then
abbrev pub take_line : Stage → JournalLine → Result Stage LineFault
take_line s (line.Head h) = take_head s h
take_line s (line.Asked pass number moment command) = take_asked s (record { pass = pass; number = number; moment = moment; command = command })
take_line (stage.Asked f a) (line.Answered r) = Ok (stage.Answered f (answered a r))
take_line s (line.Answered r) = Err NotALine
take_line s (line.Victim k) = take_of_entry s (line.Victim k)
take_line s (line.Sent t) = take_of_entry s (line.Sent t)
take_line (stage.End f d) (line.Digest text) = Ok (stage.Sealed f d)
take_line s (line.Digest text) = Err NotALine
take_line s l = take_of_state s l

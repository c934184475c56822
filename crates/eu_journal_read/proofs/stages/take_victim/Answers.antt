use Rattle.std.proofs.Common.{inr}
use Rattle.eu_journal.specs.declared.lines.JournalLine.TheVariants as line
use Rattle.eu_journal_read.proofs.RunLemmas.{no_entry}
use Rattle.eu_journal_read.proofs.stages.take_victim.Goals as goal

pub returns-in_default : goal.returns-in_default
returns-in_default c = inr (no_entry c.args.stage (line.Victim c.args.key) c.in_default.not-Answered)

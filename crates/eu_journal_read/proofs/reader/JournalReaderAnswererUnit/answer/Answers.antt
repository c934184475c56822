use Rattle.std.proofs.Common.{Err, ap}
use Rattle.eu_journal_read.proofs.reader.JournalReaderAnswererUnit.answer.Goals as goal

pub returns-in-Err-NotALine-clause-bad : goal.returns-in-Err-NotALine-clause-bad
returns-in-Err-NotALine-clause-bad c = λ same. c.in-Err-NotALine.ensures.refused (ap Err c.in-Err-NotALine.field-0-is)

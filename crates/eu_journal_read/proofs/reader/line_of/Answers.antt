use Rattle.eu_journal_read.proofs.ReaderLemmas.{no_text, read_as, unread}
use Rattle.eu_journal_read.proofs.reader.line_of.Goals as goal

pub returns-in-Ok-clause-ok : goal.returns-in-Ok-clause-ok
returns-in-Ok-clause-ok c = read_as c.read_line.result c.args.text.now c.in-Ok.text.now c.in-Ok.ensures.cases.0 c.in-Ok.ensures.cases.1 c.read_line.ensures

pub returns-in-Ok-clause-none : goal.returns-in-Ok-clause-none
returns-in-Ok-clause-none c = unread c.read_line.result c.args.text.now c.in-Ok.text.now c.in-Ok.ensures.cases.0 c.read_line.ensures

pub returns-in-Err-clause-none : goal.returns-in-Err-clause-none
returns-in-Err-clause-none c = λ is. no_text c.args.text.now c.in-Err.ensures.cases.0

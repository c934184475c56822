use Rattle.eu_journal.proofs.LineLemmas.{lines_come_back}
use Rattle.eu_journal_text.proofs.lines.line_texts_come_back.Goals as goal

pub returns : goal.returns
returns c l text is there = rw there (lines_come_back l is)

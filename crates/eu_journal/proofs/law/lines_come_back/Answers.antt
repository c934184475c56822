use Rattle.eu_journal.proofs.LineLemmas as lemmas
use Rattle.eu_journal.proofs.law.lines_come_back.Goals as goal

pub returns : goal.returns
returns c = lemmas.lines_come_back

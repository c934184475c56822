use Rattle.eu_journal_read.proofs.LawLemmas.{journals_back}
use Rattle.eu_journal_read.proofs.law.journals_come_back.Goals as goal

pub returns : goal.returns
returns c = journals_back

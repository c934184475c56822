use Rattle.eu_journal_read.proofs.LawLemmas.{one_journal}
use Rattle.eu_journal_read.proofs.law.a_text_says_one_journal.Goals as goal

pub returns : goal.returns
returns c = one_journal

use Rattle.eu_book.proofs.BusyLemmas as lemmas
use Rattle.eu_book.proofs.law.drains_are_busy.Goals as goal

pub returns : goal.returns
returns c = lemmas.drains_are_busy

use Rattle.eu_book.proofs.KeyedLemmas as lemmas
use Rattle.eu_book.proofs.law.listings_ascend.Goals as goal

pub returns : goal.returns
returns c = lemmas.listings_ascend

use Rattle.eu_words.proofs.Texts.{words_some}
use Rattle.eu_words.proofs.words.Words.end.Goals as goal

pub returns-in-Some-clause-said : goal.returns-in-Some-clause-said
returns-in-Some-clause-said c = rw (← c.self.view_is, c.in-Some.is) (words_some c.in-Some.field-0.now)

use Rattle.std.proofs.Common.{◌≡◌, length}
use Rattle.eu_words.specs.Words.{codes_of}
use Rattle.eu_words.proofs.Codes.{with_front}
use Rattle.eu_words.proofs.words.Words.codes.Given as goal

-- the codes that were read stand before those that the words left say
abbrev pub invariant-words : goal.invariant-words
invariant-words l = with_front l.codes.items (codes_of l.self) ≡ codes_of l.fn.self

abbrev pub decreases-words : goal.decreases-words
decreases-words l = length l.self

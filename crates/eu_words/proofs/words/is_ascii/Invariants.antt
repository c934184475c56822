use Rattle.std.proofs.Common.{ℕ, ◌<◌, get_or}
use Rattle.eu_words.proofs.words.is_ascii.Given as goal

abbrev pub invariant-loop-byte : goal.invariant-loop-byte
invariant-loop-byte l = (k : ℕ) → k < l.byte-index → get_or l.word k 0 < 128

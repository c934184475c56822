use Rattle.std.proofs.Common.{◌<◌, arith}
use Rattle.std.proofs.lemmas.List.Elements.{All-from_get_or}
use Rattle.std.proofs.lemmas.Str.Ascii.{IsAscii-from_all}
use Rattle.eu_words.proofs.words.is_ascii.Goals as goal

pub returns : goal.returns
returns c = λ _. IsAscii-from_all c.args.word.now (All-from_get_or (λ b. b < 128) c.args.word.now 0 (λ k l. c.loop-byte.invariant k (omega (arith, l))))

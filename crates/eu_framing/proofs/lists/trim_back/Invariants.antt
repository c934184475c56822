use Rattle.std.proofs.Common.{◌≡◌, length, reverse}
use Rattle.httparse.specs.Grammar.{skip_ows}
use Rattle.eu_framing.proofs.lists.trim_back.Given as goal

abbrev pub invariant-bytes : goal.invariant-bytes
invariant-bytes l = skip_ows (reverse l.rest) ≡ skip_ows (reverse l.text)

abbrev pub decreases-bytes : goal.decreases-bytes
decreases-bytes l = length l.rest

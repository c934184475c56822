use Rattle.std.proofs.Common.{◌≡◌, length}
use Rattle.httparse.specs.Grammar.{skip_ows}
use Rattle.eu_framing.proofs.lists.trim_front.Given as goal

abbrev pub invariant-bytes : goal.invariant-bytes
invariant-bytes l = skip_ows l.rest ≡ skip_ows l.text

abbrev pub decreases-bytes : goal.decreases-bytes
decreases-bytes l = length l.rest

use Rattle.std.proofs.Common.{◌≡◌, drop}
use Rattle.json.specs.Print.{escape}
use Rattle.eu_text.proofs.append.is_plain.Given as goal

abbrev pub invariant-loop-byte : goal.invariant-loop-byte
invariant-loop-byte l = escape (drop l.byte-index l.text) ≡ drop l.byte-index l.text → escape l.text ≡ l.text

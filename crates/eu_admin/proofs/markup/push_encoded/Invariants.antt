use Rattle.std.proofs.Common.{◌≡◌, ◌++◌, drop, string_bytes}
use Rattle.eu_admin.specs.Markup.{encoded}
use Rattle.eu_admin.proofs.markup.push_encoded.Given as goal

abbrev pub invariant-loop-byte : goal.invariant-loop-byte
invariant-loop-byte l = string_bytes l.out ++ encoded (drop l.byte-index l.byte-items) ≡ string_bytes l.fn.out ++ encoded l.text

use Rattle.std.proofs.Common.{◌≡◌, take}
use Rattle.std.specs.Str.{str_to_ascii_uppercase}
use Rattle.eu_base.proofs.names.has_small_letter.Given as goal

abbrev pub invariant-loop-byte : goal.invariant-loop-byte
invariant-loop-byte l = str_to_ascii_uppercase (take l.byte-index l.bytes) ≡ take l.byte-index l.bytes

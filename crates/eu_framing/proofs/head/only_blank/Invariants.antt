use Rattle.std.proofs.Common.{◌≡◌, drop, false}
use Rattle.eu_framing.specs.Steps.{blank_lines}
use Rattle.eu_framing.proofs.head.only_blank.Given as goal

abbrev pub invariant-loop-byte : goal.invariant-loop-byte
invariant-loop-byte l = blank_lines l.after_cr (drop l.byte-index l.bytes) ≡ blank_lines false l.bytes

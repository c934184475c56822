use Rattle.std.proofs.Common.{◌≡◌, ◌++◌, drop, string_bytes}
use Rattle.eu_script.specs.Texts.{keys_text}
use Rattle.eu_script.proofs.printing.print_keys.Given as goal

-- what is printed, and what is left to print
abbrev pub invariant-loop-key : goal.invariant-loop-key
invariant-loop-key l = string_bytes l.out ++ keys_text (drop l.key-index l.keys) ≡ string_bytes l.fn.out ++ keys_text l.keys

use Rattle.std.proofs.Common.{◌≡◌, ◌+◌, ◌≤◌, drop, min}
use Rattle.eu_framing.specs.Walking.{values_memory}
use Rattle.eu_framing.proofs.request.values_memory.Given as goal

-- with what is left it comes to the memory of all
abbrev pub invariant-loop-value : goal.invariant-loop-value
invariant-loop-value l = record {
  whole : min (l.memory + values_memory (drop l.value-index l.values)) 18446744073709551615 ≡ min (values_memory l.values) 18446744073709551615;
  within : l.memory ≤ 18446744073709551615;
}

use Rattle.std.proofs.Common.{◌≡◌, ◌++◌, drop, string_bytes}
use Rattle.std.specs.List.{flat_map}
use Rattle.eu_admin.specs.Metrics.{of_fault}
use Rattle.eu_admin.proofs.metrics.push_by_fault.Given as goal

abbrev pub invariant-loop-count : goal.invariant-loop-count
invariant-loop-count l =
    string_bytes l.text ++ flat_map of_fault (drop l.count-index l.counts) ≡ string_bytes l.fn.text ++ flat_map of_fault l.counts

use Rattle.std.proofs.Common.{◌≡◌, ◌≤◌, length, take}
use Rattle.eu_store.specs.Removed.{with_values}
use Rattle.eu_core.proofs.undo.put_leases.Given as goal

-- what is left to put leads to the whole
abbrev pub invariant-loop-left : goal.invariant-loop-left
invariant-loop-left l = record {
  within : l.left ≤ length l.keys;
  within_held : l.left ≤ length l.held;
  same : with_values l.leases.held (take l.left l.keys) (take l.left l.held) ≡ with_values l.fn.leases.held l.keys l.held;
}

abbrev pub decreases-loop-left : goal.decreases-loop-left
decreases-loop-left l = l.left

use Rattle.std.proofs.Common.{◌≡◌, ◌≤◌, length, take, map}
use Rattle.eu_store.specs.Removed.{with_values}
use Rattle.eu_core.proofs.undo.put_rows.Given as goal

-- what is left to put leads to the whole
abbrev pub invariant-loop-left : goal.invariant-loop-left
invariant-loop-left l = record {
  within : l.left ≤ length l.keys;
  within_rows : l.left ≤ length l.rows;
  same : with_values l.overrides.rows (take l.left (map (λ k. k.id) l.keys)) (take l.left l.rows) ≡ with_values l.fn.overrides.rows (map (λ k. k.id) l.keys) l.rows;
}

abbrev pub decreases-loop-left : goal.decreases-loop-left
decreases-loop-left l = l.left

use Rattle.std.proofs.Common.{ℕ, ◌≢◌, Some, slice_get}
use Rattle.eu_store.specs.Order.{Part}
use Rattle.eu_store.proofs.directory.no_parts.Given as goal

-- so far no part is gathered
abbrev pub invariant-loop-part : goal.invariant-loop-part
invariant-loop-part l = (n : ℕ) (c : Part) → slice_get l.parts.items n ≢ Some (Some c)

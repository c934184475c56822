use Rattle.std.proofs.Common.{ℕ, ◌≡◌, Some, length, slice_get}
use Rattle.std.specs.Arc.{arc_value}
use Rattle.eu_store.specs.Order.{undated_of, window, AreParts, Part}
use Rattle.eu_store.proofs.directory.Directory.parts.Given as goal

-- so far the first ones, and the directory is right
pub record IsSoFar (l : goal.Live-loop-number) : Type 0 where
  pub places : l.self.places ≡ l.initial.self.places
  pub kept : AreParts l.table.entries l.self.parts.items
  pub each : (n : ℕ) (c : Part) → slice_get l.parts.items n ≡ Some c → (arc_value c).items ≡ window n (undated_of l.table.entries)
  pub count : length l.parts.items ≡ l.number

abbrev pub invariant-loop-number : goal.invariant-loop-number
invariant-loop-number l = IsSoFar l

use Rattle.std.proofs.Common.{◌≡◌, ◌≤◌, ◌-◌, take, drop}
use Rattle.eu_store.specs.Order.{undated_of}
use Rattle.eu_store.proofs.directory.gathered.Given as goal

-- so far those of the first places
pub record IsSoFar (l : goal.Live-loop-place) : Type 0 where
  pub items : l.neighbours.items ≡ take (l.place - l.begin) (drop l.begin (undated_of l.table.entries))
  pub from : l.begin ≤ l.place
  pub to : l.place ≤ l.end

abbrev pub invariant-loop-place : goal.invariant-loop-place
invariant-loop-place l = IsSoFar l

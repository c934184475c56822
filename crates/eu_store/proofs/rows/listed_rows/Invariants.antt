use Rattle.std.proofs.Common.{◌≡◌, map, take}
use Rattle.eu_store.proofs.rows.listed_rows.Given as goal

-- what the rows so far hold
abbrev pub invariant-loop-row : goal.invariant-loop-row
invariant-loop-row l = l.leases.items ≡ map (λ r. r.1.now) (take l.row-index l.row-items)

use Rattle.std.proofs.Common.{◌≡◌, take}
use Rattle.eu_store.specs.Order.{undated_in, snapped}
use Rattle.eu_store.proofs.snapshot.Snapshot.listed.Given as goal

-- what is listed so far
abbrev pub invariant-loop-place : goal.invariant-loop-place
invariant-loop-place l = l.leases.items ≡ snapped (undated_in l.self-inside.parts.items) l.self-inside.deadlines (take l.place-index l.place-items)

use Rattle.std.proofs.Common.{ℕ, ◌<◌, ◌≤◌, ◌-◌}
use Rattle.eu_settle.specs.Settled.{IsSettledAt}
use Rattle.eu_settle.proofs.settling.settle.Given as goal

abbrev pub invariant-loop-from : goal.invariant-loop-from
invariant-loop-from l = record { settled : (n : ℕ) → n < l.from → IsSettledAt l.closed.first l.closed.logs.items l.closed.entries.items n; small : l.from ≤ 18446744073709551616 }

abbrev pub decreases-loop-from : goal.decreases-loop-from
decreases-loop-from l = 18446744073709551616 - l.from

use Rattle.std.proofs.Common.{ℕ, ◌<◌, ◌≤◌, get_or}
use Rattle.eu_settle.specs.declared.closed.PassLog.{PassLog}
use Rattle.eu_settle.proofs.parts.next_log.Given as goal

abbrev pub invariant-loop-log : goal.invariant-loop-log
invariant-loop-log l = record { least : (k : ℕ) (d : PassLog) → k < l.log-index → l.from ≤ (get_or l.logs k d).pass → l.least ≤ (get_or l.logs k d).pass; low : l.from ≤ l.least; high : l.least ≤ 18446744073709551616 }

use Rattle.std.proofs.Common.{ℕ, ◌<◌, ◌≤◌, get_or}
use Rattle.eu_model.specs.declared.commands.Entry.{Entry}
use Rattle.eu_settle.proofs.parts.next_entry.Given as goal

abbrev pub invariant-loop-entry : goal.invariant-loop-entry
invariant-loop-entry l = record { least : (k : ℕ) (d : Entry) → k < l.entry-index → l.from ≤ (get_or l.entries k d).pass → l.least ≤ (get_or l.entries k d).pass; low : l.from ≤ l.least; high : l.least ≤ 18446744073709551616 }

use Rattle.std.proofs.Common.{◌≡◌, ◌+◌, ◌≤◌, ◌++◌, List, length}
use Rattle.eu_book.specs.declared.journal.Logged.{Logged}
use Rattle.eu_settle.specs.Settled.{from_first, part_of}
use Rattle.eu_settle.proofs.settling.first_difference.Given as goal

abbrev pub invariant-loop-one : goal.invariant-loop-one
invariant-loop-one l = (p : List Logged) × (length p ≡ l.place) × (from_first l.first l.fn.log ≡ p ++ from_first l.first l.log) × (part_of l.pass l.fn.entries ≡ p ++ part_of l.pass l.entries) × (l.place + length l.log ≤ length l.fn.log)

abbrev pub decreases-loop-one : goal.decreases-loop-one
decreases-loop-one l = length l.log

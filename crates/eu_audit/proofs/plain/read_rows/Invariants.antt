use Rattle.std.proofs.Common.{◌≡◌, length}
use Rattle.std.specs.FinMap.{from_entries}
use Rattle.eu_audit.proofs.TableLemmas.{put_all}
use Rattle.eu_audit.proofs.plain.read_rows.Given as goal

-- what is left leads to the whole
abbrev pub invariant-loop-row : goal.invariant-loop-row
invariant-loop-row l = record { whole : put_all l.left l.table ≡ from_entries l.fn.overrides }

abbrev pub decreases-loop-row : goal.decreases-loop-row
decreases-loop-row l = length l.left

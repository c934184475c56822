use Rattle.std.proofs.Common.{◌≡◌, length}
use Rattle.std.specs.FinMap.{from_entries}
use Rattle.eu_model.specs.View.{by_key}
use Rattle.eu_audit.proofs.TableLemmas.{put_all}
use Rattle.eu_audit.proofs.plain.read_leases.Given as goal

-- what is left leads to the whole
abbrev pub invariant-loop-lease : goal.invariant-loop-lease
invariant-loop-lease l = record { whole : put_all (by_key l.left) l.table ≡ from_entries (by_key l.fn.leases) }

abbrev pub decreases-loop-lease : goal.decreases-loop-lease
decreases-loop-lease l = length l.left

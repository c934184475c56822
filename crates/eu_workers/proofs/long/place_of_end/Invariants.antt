use Rattle.std.proofs.Common.{◌≡◌, ◌<◌, ℕ, false, get_or}
use Rattle.eu_workers.specs.Long.{ends_path}
use Rattle.eu_workers.proofs.long.place_of_end.Given as goal

abbrev pub invariant-loop-i : goal.invariant-loop-i
invariant-loop-i l = (k : ℕ) → k < l.i → ends_path (get_or l.bytes k 0) ≡ false

use Rattle.std.proofs.Common.{◌≡◌, ◌<◌, ◌≤◌, ℕ, length, slice_index_or}
use Rattle.eu_workers.specs.All.{IsNumbered}
use Rattle.eu_workers.proofs.all.number_all.Given as goal

abbrev pub invariant-loop-i : goal.invariant-loop-i
invariant-loop-i g l = record {
  len : length l.workers ≡ length l.initial.workers;
  numbered : (k : ℕ) (d : _) → k < l.i → IsNumbered (slice_index_or l.initial.workers k d) (slice_index_or l.workers k d);
  rest : (k : ℕ) (d : _) → l.i ≤ k → slice_index_or l.workers k d ≡ slice_index_or l.initial.workers k d;
}

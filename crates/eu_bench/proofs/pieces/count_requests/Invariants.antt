use Rattle.std.proofs.Common.{◌≡◌}
use Rattle.eu_bench.proofs.pieces.count_requests.Given as goal

abbrev pub invariant-requests : goal.invariant-requests
invariant-requests g l = record {
  same_stream : g.R.Source.stream l.reader ≡ g.R.Source.stream l.initial.reader;
  sound : g.R.Source.failed l.reader ≡ g.R.Source.failed l.initial.reader;
}

use Rattle.eu_json.proofs.RunLemmas.{AreOfOne}
use Rattle.eu_json.proofs.listings.run_len.Given as goal

abbrev pub invariant-loop-place : goal.invariant-loop-place
invariant-loop-place l = AreOfOne l.held l.place

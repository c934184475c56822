use Rattle.eu_admin.proofs.RunLemmas.{AreOfOne}
use Rattle.eu_admin.proofs.lines.run_len.Given as goal

abbrev pub invariant-loop-place : goal.invariant-loop-place
invariant-loop-place l = AreOfOne l.listing l.place

use Rattle.std.proofs.Common.{append_assoc}
use Rattle.eu_admin.specs.Metrics.{preservation}
use Rattle.eu_admin.proofs.metrics.push_preservation.Goals as goal

pub returns : goal.returns
unfolding preservation
returns c = simp (c.in_ok-push_flag-2.ensures, c.in_ok-push_flag.ensures, append_assoc)

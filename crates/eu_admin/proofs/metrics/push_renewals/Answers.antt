use Rattle.std.proofs.Common.{append_assoc}
use Rattle.eu_admin.specs.Metrics.{renewals}
use Rattle.eu_admin.proofs.metrics.push_renewals.Goals as goal

pub returns : goal.returns
unfolding renewals
returns c = simp (c.in_ok-push_gauge-4.ensures, c.in_ok-push_gauge-3.ensures, c.in_ok-push_gauge-2.ensures, c.in_ok-push_gauge.ensures, append_assoc)

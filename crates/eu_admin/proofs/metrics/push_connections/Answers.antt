use Rattle.std.proofs.Common.{append_assoc}
use Rattle.eu_admin.specs.Metrics.{connections}
use Rattle.eu_admin.proofs.metrics.push_connections.Goals as goal

pub returns : goal.returns
unfolding connections
returns c = simp (c.in_ok-push_counter-2.ensures, c.in_ok-push_counter.ensures, c.in_ok-push_gauge.ensures, append_assoc)

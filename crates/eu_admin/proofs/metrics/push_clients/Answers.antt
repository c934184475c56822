use Rattle.std.proofs.Common.{append_assoc}
use Rattle.eu_admin.specs.Metrics.{clients}
use Rattle.eu_admin.proofs.metrics.push_clients.Goals as goal

pub returns : goal.returns
unfolding clients
returns c = simp (c.in_ok-push_responses.ensures, c.in_ok-push_connections.ensures, append_assoc)

use Rattle.std.proofs.Common.{append_assoc}
use Rattle.eu_admin.proofs.metrics.metrics_text.Goals as goal

pub returns : goal.returns
returns c = simp (c.in_ok-push_server.ensures, c.in_ok-push_clients.ensures, c.in_ok-push_done.ensures, c.in_ok-push_preservation.ensures, c.in_ok-push_renewals.ensures, c.in_ok-push_leases.ensures, c.new-text.ensures.bytes, append_assoc)

use Rattle.std.proofs.Common.{append_assoc}
use Rattle.eu_admin.specs.Metrics.{leases}
use Rattle.eu_admin.proofs.metrics.push_leases.Goals as goal

pub returns : goal.returns
unfolding leases
returns c = simp (c.in_ok-push_status-5.ensures, c.in_ok-push_status-4.ensures, c.in_ok-push_status-3.ensures, c.in_ok-push_status-2.ensures, c.in_ok-push_status.ensures, c.in_ok-push_family.ensures, append_assoc)

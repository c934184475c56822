use Rattle.std.proofs.Common.{append_assoc}
use Rattle.eu_admin.specs.Metrics.{responses}
use Rattle.eu_admin.proofs.metrics.push_responses.Goals as goal

pub returns : goal.returns
unfolding responses
returns c = simp (c.in_ok-push_by_fault.ensures, c.in_ok-push_family-2.ensures, c.in_ok-push_by_status.ensures, c.in_ok-push_family.ensures, append_assoc)

use Rattle.std.proofs.Common.{append_assoc}
use Rattle.eu_admin.specs.Front.{numbers}
use Rattle.eu_admin.proofs.front.push_numbers.Goals as goal

pub returns : goal.returns
unfolding numbers
returns c = simp (c.in_ok-push_since_the_start.ensures, c.in_ok-push_leases.ensures, c.in_ok-push_renewals.ensures, c.in_ok-push_meter.ensures, c.in_ok-push_banner.ensures, append_assoc)

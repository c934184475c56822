use Rattle.std.proofs.Common.{append_assoc}
use Rattle.eu_admin.specs.Metrics.{server}
use Rattle.eu_admin.proofs.metrics.push_server.Goals as goal

pub returns : goal.returns
unfolding server
returns c = simp (c.in_ok-writeln.ensures.bytes, c.in_ok-push_family.ensures, c.in_ok-push_gauge.ensures, append_assoc)

use Rattle.std.proofs.Common.{sym}
use Rattle.eu_admin.specs.Metrics.{in_status}
use Rattle.eu_admin.proofs.metrics.push_status.Goals as goal

pub returns : goal.returns
unfolding in_status
returns c = simp (sym c.name-name.ensures) c.writeln.ensures.bytes

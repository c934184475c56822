use Rattle.std.proofs.Common.{append_assoc}
use Rattle.eu_admin.specs.Metrics.{done}
use Rattle.eu_admin.proofs.metrics.push_done.Goals as goal

pub returns : goal.returns
unfolding done
returns c = simp (c.in_ok-push_counter-5.ensures, c.in_ok-push_counter-4.ensures, c.in_ok-push_counter-3.ensures, c.in_ok-push_counter-2.ensures, c.in_ok-push_counter.ensures, append_assoc)

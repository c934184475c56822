use Rattle.std.proofs.Common.{append_assoc}
use Rattle.eu_admin.specs.Front.{done}
use Rattle.eu_admin.proofs.front.push_done.Goals as goal

pub returns : goal.returns
unfolding done
returns c = simp (c.in_ok-push_row-5.ensures, c.in_ok-push_row-4.ensures, c.in_ok-push_row-3.ensures, c.in_ok-push_row-2.ensures, c.in_ok-push_row.ensures, append_assoc)

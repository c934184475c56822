use Rattle.std.proofs.Common.{append_assoc}
use Rattle.eu_admin.specs.Front.{since_the_start}
use Rattle.eu_admin.proofs.front.push_since_the_start.Goals as goal

pub returns : goal.returns
unfolding since_the_start
returns c = simp (c.in_ok-push_table_end.ensures, c.in_ok-push_row.ensures, c.in_ok-push_connections.ensures, c.in_ok-push_done.ensures, c.in_ok-push_section.ensures, append_assoc)

use Rattle.std.proofs.Common.{append_assoc}
use Rattle.eu_admin.specs.Front.{leases}
use Rattle.eu_admin.proofs.front.push_leases.Goals as goal

pub returns : goal.returns
unfolding leases
returns c = simp (c.in_ok-push_table_end.ensures, c.in_ok-push_row-2.ensures, c.in_ok-push_statuses.ensures, c.in_ok-push_row.ensures, c.in_ok-push_section.ensures, append_assoc)

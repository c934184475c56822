use Rattle.std.proofs.Common.{append_assoc}
use Rattle.eu_admin.specs.Front.{renewals}
use Rattle.eu_admin.proofs.front.push_renewals.Goals as goal

pub returns : goal.returns
unfolding renewals
returns c = simp (c.in_ok-push_table_end.ensures, c.in_ok-push_row-3.ensures, c.in_ok-push_row-2.ensures, c.in_ok-push_row.ensures, c.in_ok-push_section.ensures, append_assoc)

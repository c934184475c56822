use Rattle.std.proofs.Common.{append_assoc}
use Rattle.eu_admin.specs.Front.{applications}
use Rattle.eu_admin.proofs.front.push_applications.Goals as goal

pub returns : goal.returns
unfolding applications
returns c = simp (c.in_ok-push_table_end.ensures, c.in_ok-push_lines.ensures, c.in_ok-push_app_heads.ensures, c.in_ok-push_section.ensures, append_assoc)

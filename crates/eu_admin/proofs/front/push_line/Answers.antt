use Rattle.std.proofs.Common.{append_assoc}
use Rattle.eu_admin.specs.Front.{app_row}
use Rattle.eu_admin.proofs.front.push_line.Goals as goal

pub returns : goal.returns
unfolding app_row
returns c = simp (c.in_ok-writeln.ensures.bytes, c.in_ok-push_link.ensures, c.in_ok-push_str.ensures.bytes, c.as_str.ensures.value, append_assoc)

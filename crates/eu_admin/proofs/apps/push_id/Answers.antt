use Rattle.std.proofs.Common.{append_assoc}
use Rattle.eu_admin.specs.Apps.{id_cell}
use Rattle.eu_admin.proofs.apps.push_id.Goals as goal

pub returns : goal.returns
unfolding id_cell
returns c = simp (c.in_ok-push_str-2.ensures.bytes, c.in_ok-push_escaped.ensures, c.in_ok-push_str.ensures.bytes, append_assoc)

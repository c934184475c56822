use Rattle.std.proofs.Common.{append_assoc}
use Rattle.eu_admin.proofs.apps.app_page.Goals as goal

pub returns : goal.returns
returns c = simp (c.in_ok-push_end.ensures, c.in_ok-push_table_end.ensures, c.in_ok-push_instances.ensures, c.in_ok-push_heads.ensures, c.in_ok-push_head.ensures, c.new-text.ensures.bytes, append_assoc)

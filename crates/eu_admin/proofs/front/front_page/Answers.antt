use Rattle.std.proofs.Common.{append_assoc}
use Rattle.eu_admin.proofs.front.front_page.Goals as goal

pub returns : goal.returns
returns c = simp (c.in_ok-push_end.ensures, c.in_ok-push_foot.ensures, c.in_ok-push_applications.ensures, c.in_ok-push_numbers.ensures, c.in_ok-push_head.ensures, c.new-text.ensures.bytes, append_assoc)

use Rattle.std.proofs.Common.{append_assoc}
use Rattle.eu_admin.specs.Parts.{head}
use Rattle.eu_admin.proofs.parts.push_head.Goals as goal

pub returns : goal.returns
unfolding head
returns c = simp (c.in_ok-push_heading.ensures, c.in_ok-push_style.ensures, c.in_ok-push_str.ensures.bytes, c.in_ok-push_escaped.ensures, c.in_ok-push_before_title.ensures, append_assoc)

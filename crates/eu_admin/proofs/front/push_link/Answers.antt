use Rattle.std.proofs.Common.{append_assoc}
use Rattle.eu_admin.specs.Front.{link}
use Rattle.eu_admin.proofs.front.push_link.Goals as goal

pub returns : goal.returns
unfolding link
returns c = simp (c.in_ok-push_str-3.ensures.bytes, c.in_ok-push_escaped.ensures, c.in_ok-push_str-2.ensures.bytes, c.in_ok-push_encoded.ensures, c.in_ok-push_str.ensures.bytes, append_assoc)

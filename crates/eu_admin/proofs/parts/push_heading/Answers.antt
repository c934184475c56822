use Rattle.std.proofs.Common.{append_assoc}
use Rattle.eu_admin.specs.Parts.{heading}
use Rattle.eu_admin.proofs.parts.push_heading.Goals as goal

pub returns : goal.returns
unfolding heading
returns c = simp (c.in_ok-push_str-2.ensures.bytes, c.in_ok-push_escaped.ensures, c.in_ok-push_str.ensures.bytes, append_assoc)

use Rattle.eu_json.proofs.MemberLemmas.{others_done}
use Rattle.eu_json.proofs.read.others_of.Goals as goal

-- src/read.rt:108:1
pub returns : goal.returns
returns c = others_done c.loop-member.others.items c.loop-member.member-iterator c.args.members.entries c.loop-member.invariant.left c.in-None.ensures.steps.0

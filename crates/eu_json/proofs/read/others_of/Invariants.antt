use Rattle.std.proofs.Common.{◌≡◌, ◌++◌, filter}
use Rattle.eu_json.proofs.MemberLemmas.{is_others}
use Rattle.eu_json.proofs.read.others_of.Given as goal

abbrev pub invariant-loop-member : goal.invariant-loop-member
invariant-loop-member l = record {
  can : (goal.iterator-loop-member).can_next l.member-iterator;
  finite : (goal.iterator-loop-member).is_finite l.member-iterator;
  left : l.others.items ++ filter is_others l.member-iterator ≡ filter is_others l.fn.members.entries;
}

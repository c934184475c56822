use Rattle.std.proofs.Common.{sym, ◌∙◌}
use Rattle.eu_framing.proofs.ListLemmas.{has_it_first, has_it_later, has_it_alone}
use Rattle.eu_framing.proofs.lists.has_member.Goals as goal

pub returns-then-is_same_text : goal.returns-then-is_same_text
returns-then-is_same_text c =
    let same = rw c.trim.ensures at c.if-is_same_text.ensures in
    sym (c.members.invariant ∙ has_it_first c.members.rest.now c.in-Some.member.now c.in-Some.behind.now c.args.name.now c.in-Some.ensures.whole c.in-Some.ensures.first (sym same))

pub members-preserved : goal.members-preserved
members-preserved c =
    let other = rw c.trim.ensures at c.if-is_same_text.ensures in
    c.members.invariant ∙ has_it_later c.members.rest.now c.in-Some.member.now c.in-Some.behind.now c.args.name.now c.in-Some.ensures.whole c.in-Some.ensures.first (sym other)

pub returns : goal.returns
returns c =
    let alone = rw c.trim-2.ensures at c.is_same_text-2.ensures in
    alone ∙ sym (c.members.invariant ∙ has_it_alone c.members.rest.now c.args.name.now c.in_default.ensures.none)

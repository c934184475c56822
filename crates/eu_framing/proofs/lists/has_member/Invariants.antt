use Rattle.std.proofs.Common.{◌≡◌, length}
use Rattle.eu_framing.specs.Fields.{has_member}
use Rattle.eu_framing.proofs.lists.has_member.Given as goal

abbrev pub invariant-members : goal.invariant-members
invariant-members l = has_member l.list l.name ≡ has_member l.rest l.name

abbrev pub decreases-members : goal.decreases-members
decreases-members l = length l.rest

use Rattle.std.proofs.Common.{◌≡◌, ◌∷◌, subst}
use Rattle.eu_audit_queue.specs.Names.{AreNoted}
use Rattle.eu_audit_queue.proofs.NoteLemmas.{noted_forget}
use Rattle.eu_audit_queue.proofs.waiting.Waiting.pop_first.Goals as goal

pub invariant_of-self-2 : goal.invariant_of-self-2
invariant_of-self-2 c =
    let task = c.in_ok-name.task in
    let rest = c.pop_first.new.self in
    let whole : c.self.inside.order ≡ task ∷ rest = c.in_ok-name.ensures.items in
    let noted = subst (AreNoted c.self.inside.ages) whole c.self.invariant in
    noted_forget c.self.inside.ages c.forget.new.ages task.queued c.in_ok-name.name rest c.forget.ensures c.in_ok-name.ensures.apart noted.1

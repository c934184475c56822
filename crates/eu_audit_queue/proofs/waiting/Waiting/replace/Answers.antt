use Rattle.std.proofs.Common.{false, sym, subst, arith}
use Rattle.std.specs.BTreeSet.{Updates}
use Rattle.eu_audit_queue.specs.Names.{AreNoted, note_at, note_cmp}
use Rattle.eu_audit_queue.proofs.NoteLemmas.{noted_for, noted_for_other}
use Rattle.eu_audit_queue.proofs.waiting.Waiting.replace.Goals as goal

pub invariant_of-self-in_default : goal.invariant_of-self-in_default
invariant_of-self-in_default c =
    subst (AreNoted c.remember.new.ages) (sym c.replace.ensures)
    (noted_for c.self.inside.ages c.remember.new.ages c.args.task c.self.inside.order c.in_ok-remember.ensures.ok c.self.invariant)

pub invariant_of-self-then-ms : goal.invariant_of-self-then-ms
invariant_of-self-then-ms c =
    let noted = noted_for c.self.inside.ages c.remember.new.ages c.args.task c.self.inside.order c.in_ok-remember.ensures.ok c.self.invariant in
    let gone = subst (λ name. Updates note_cmp c.remember.new.ages c.forget.new.ages (note_at c.in-Some.before name) false) c.in_ok-name.ensures c.forget.ensures in
    subst (AreNoted c.forget.new.ages) (sym c.replace.ensures)
    (noted_for_other c.remember.new.ages c.forget.new.ages c.args.task c.in-Some.before c.self.inside.order gone
    (λ same. c.if-ms.true (omega (arith, same, c.ms.ensures.value, c.ms-2.ensures.value))) noted)

pub invariant_of-self-else-ms : goal.invariant_of-self-else-ms
invariant_of-self-else-ms c =
    subst (AreNoted c.remember.new.ages) (sym c.replace.ensures)
    (noted_for c.self.inside.ages c.remember.new.ages c.args.task c.self.inside.order c.in_ok-remember.ensures.ok c.self.invariant)

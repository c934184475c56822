use Rattle.std.proofs.Common.{sym, subst}
use Rattle.eu_audit_queue.specs.Names.{AreNoted, note_of}
use Rattle.eu_audit_queue.proofs.NoteLemmas.{noted_more}
use Rattle.eu_audit_queue.proofs.waiting.Waiting.push_first.Goals as goal

pub invariant_of-self-in_err-put_first : goal.invariant_of-self-in_err-put_first
invariant_of-self-in_err-put_first c =
    let more = noted_more c.self.inside.ages c.remember.new.ages (note_of c.args.task) c.self.inside.order c.in_ok-remember.ensures.ok c.self.invariant in
    subst (AreNoted c.remember.new.ages) (sym c.in_err-put_first.ensures.err) more

pub invariant_of-self-2 : goal.invariant_of-self-2
invariant_of-self-2 c =
    let more = noted_more c.self.inside.ages c.remember.new.ages (note_of c.args.task) c.self.inside.order c.in_ok-remember.ensures.ok c.self.invariant in
    subst (AreNoted c.remember.new.ages) (sym c.in_ok-put_first.ensures.ok) (c.in_ok-remember.ensures.ok.1, more)

use Rattle.std.proofs.Common.{sym, subst}
use Rattle.eu_audit_queue.specs.Names.{AreNoted, note_of}
use Rattle.eu_audit_queue.proofs.NoteLemmas.{noted_more, noted_push}
use Rattle.eu_audit_queue.proofs.waiting.Waiting.push.Goals as goal

pub invariant_of-self-in_err-put_last : goal.invariant_of-self-in_err-put_last
invariant_of-self-in_err-put_last c =
    let more = noted_more c.self.inside.ages c.remember.new.ages (note_of c.args.task) c.self.inside.order c.in_ok-remember.ensures.ok c.self.invariant in
    subst (AreNoted c.remember.new.ages) (sym c.in_err-put_last.ensures.err) more

pub invariant_of-self-2 : goal.invariant_of-self-2
invariant_of-self-2 c =
    let more = noted_more c.self.inside.ages c.remember.new.ages (note_of c.args.task) c.self.inside.order c.in_ok-remember.ensures.ok c.self.invariant in
    subst (AreNoted c.remember.new.ages) (sym c.in_ok-put_last.ensures.ok) (noted_push c.remember.new.ages c.args.task c.self.inside.order more c.in_ok-remember.ensures.ok.1)

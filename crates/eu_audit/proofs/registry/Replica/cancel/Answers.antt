use Rattle.std.proofs.Common.{ℕ, Bool, sym, subst}
use Rattle.std.specs.FinMap.{get}
use Rattle.eu_model.specs.PlainSteps.{after, plain_cancel, Becomes}
use Rattle.eu_audit_changes.specs.Changed.{change_of}
use Rattle.eu_audit.specs.Verdict.{Judged, IsWithinLimits}
use Rattle.eu_audit.proofs.JudgeLemmas.{becomes, for_any}
use Rattle.eu_audit.proofs.LimitLemmas.{cancel_limits}
use Rattle.eu_audit.proofs.registry.Replica.cancel.Goals as goal

pub judge-requires : goal.judge-requires
judge-requires c =
    let p = c.args.self in
    let k = c.args.key.now in
    subst (λ change. IsWithinLimits (after p k change)) (sym c.cancelled-changed.ensures.changed) (cancel_limits p k c.cancelled-changed.ensures.limits)

pub returns : goal.returns
returns c =
    let p = c.args.self in
    let k = c.args.key.now in
    let kept = plain_cancel (get p.leases k) p.expected in
    let judged = becomes p k (change_of c.cancelled-changed.result) kept c.args.reply.now c.judge.result c.cancelled-changed.ensures.changed c.judge.ensures in
    for_any Bool (λ next. ℕ → Judged (Becomes p k kept c.args.reply.now) next) c.judge.result
    (for_any ℕ (Judged (Becomes p k kept c.args.reply.now)) c.judge.result judged)

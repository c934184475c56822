use Rattle.std.proofs.Common.{Bool, sym, subst}
use Rattle.std.specs.FinMap.{get}
use Rattle.eu_model.specs.PlainSteps.{after, plain_one, plain_set_status, Becomes}
use Rattle.eu_audit_changes.specs.Changed.{change_of}
use Rattle.eu_audit.specs.Verdict.{Judged, IsWithinLimits}
use Rattle.eu_audit.proofs.JudgeLemmas.{becomes, for_any}
use Rattle.eu_audit.proofs.LimitLemmas.{set_limits}
use Rattle.eu_audit.proofs.registry.Replica.set_status.Goals as goal

pub judge-requires : goal.judge-requires
judge-requires c =
    let p = c.args.self in
    let k = c.args.key.now in
    subst (λ change. IsWithinLimits (after p k change)) (sym c.in_ok-changed.ensures.changed)
    (set_limits p k c.args.status c.args.last_dirty c.args.moment c.status_set.ensures.limits)

pub returns : goal.returns
returns c =
    let p = c.args.self in
    let k = c.args.key.now in
    let kept = plain_set_status (plain_one p k c.args.moment) (get p.leases k) (get p.overrides k.id) p.expected c.args.status c.args.last_dirty c.args.moment in
    for_any Bool (Judged (Becomes p k kept c.args.reply.now)) c.judge.result
    (becomes p k (change_of c.in_ok-changed.changed) kept c.args.reply.now c.judge.result c.in_ok-changed.ensures.changed c.judge.ensures)

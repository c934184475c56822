use Rattle.std.proofs.Common.{◌≡◌, sym, subst}
use Rattle.std.specs.Prelude.{None, IfOk}
use Rattle.std.specs.FinMap.{get}
use Rattle.eu_model.specs.PlainSteps.{after, Becomes, plain_join_fault, plain_adopt}
use Rattle.eu_audit_changes.specs.Changed.{change_of}
use Rattle.eu_audit.specs.Verdict.{IsWithinLimits, Judged}
use Rattle.eu_audit.proofs.JudgeLemmas.{accepted}
use Rattle.eu_audit.proofs.LimitLemmas.{adopt_limits}
use Rattle.eu_audit.proofs.registry.Replica.adopt.Goals as goal

pub judge-requires : goal.judge-requires
judge-requires c =
    let p = c.args.self in
    let n = c.args.instance.now in
    let free = subst (λ k. plain_join_fault p k ≡ None) c.key-key.ensures (c.can_join.ensures.0 c.if-not-can_join.false) in
    subst (λ k. IsWithinLimits (after p k (change_of c.in_ok-changed.changed))) (sym c.key-key.ensures)
    (subst (λ change. IsWithinLimits (after p n.key change)) (sym c.in_ok-changed.ensures.changed)
    (adopt_limits p n c.args.moment c.adopted.ensures.limits free))

pub returns : goal.returns
returns c =
    let p = c.args.self in
    let n = c.args.instance.now in
    let kept = plain_adopt (get p.leases n.key) (get p.overrides n.key.id) p.expected n c.args.moment in
    accepted p n.key (change_of c.in_ok-changed.changed) kept c.args.reply.now c.judge.result c.in_ok-changed.ensures.changed
    (subst (λ k. plain_join_fault p k ≡ None) c.key-key.ensures (c.can_join.ensures.0 c.if-not-can_join.false))
    (subst (λ k. IfOk c.judge.result (Judged (Becomes p k (change_of c.in_ok-changed.changed) c.args.reply.now))) c.key-key.ensures c.judge.ensures)

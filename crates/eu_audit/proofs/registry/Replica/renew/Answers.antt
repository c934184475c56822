use Rattle.std.proofs.Common.{◌≡◌, sym, subst}
use Rattle.std.specs.Prelude.{None}
use Rattle.std.specs.FinMap.{get}
use Rattle.eu_model.specs.Change.{Change}
use Rattle.eu_model.specs.declared.views.Listed.{Listed}
use Rattle.eu_model.specs.PlainSteps.{after, plain_renew, plain_renew_fault}
use Rattle.eu_audit_changes.specs.Changed.{change_of}
use Rattle.eu_audit.specs.Verdict.{IsWithinLimits}
use Rattle.eu_audit.proofs.JudgeLemmas.{accepted}
use Rattle.eu_audit.proofs.LimitLemmas.{renew_limits}
use Rattle.eu_audit.proofs.registry.Replica.renew.Goals as goal

pub judge-requires : goal.judge-requires
judge-requires c =
    let p = c.args.self in
    let k = c.args.key.now in
    let is = c.in_ok-changed.ensures.changed in
    subst (λ change. IsWithinLimits (after p k change)) (sym is)
    (renew_limits p k c.args.last_dirty c.args.overridden c.args.replicated c.args.moment c.renewed.ensures.limits
    (subst (λ (change : Change Listed). plain_renew_fault p change.counted ≡ None) is (c.can_count.ensures.0 c.if-not-can_count.false)))

pub returns : goal.returns
returns c =
    let p = c.args.self in
    let k = c.args.key.now in
    let is = c.in_ok-changed.ensures.changed in
    let kept = plain_renew (get p.leases k) (get p.overrides k.id) p.expected c.args.last_dirty c.args.overridden c.args.replicated c.args.moment in
    accepted p k (change_of c.in_ok-changed.changed) kept c.args.reply.now c.judge.result is
    (subst (λ (change : Change Listed). plain_renew_fault p change.counted ≡ None) is (c.can_count.ensures.0 c.if-not-can_count.false)) c.judge.ensures

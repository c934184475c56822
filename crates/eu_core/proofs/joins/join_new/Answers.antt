use Rattle.std.proofs.Common.{refl, ap, ◌∙◌}
use Rattle.std.specs.Prelude.{None, unwrap_or}
use Rattle.eu_base.specs.declared.instances.Instance.{Instance}
use Rattle.eu_base.specs.declared.statuses.Status.{Status}
use Rattle.eu_model.specs.Change.{rule, row_after, up_after}
use Rattle.eu_lease.specs.Term.{Term, fresh, listed_with}
use Rattle.eu_core.proofs.JoinLemmas.{joins_from}
use Rattle.eu_core.proofs.joins.join_new.Goals as goal

pub returns-clause-joins : goal.returns-clause-joins
returns-clause-joins c =
    let x = c.judge_statuses-statuses.result in
    let s = c.judge_statuses-statuses.ensures in
    let row = c.args.context.row in
    let over = c.overridden.ensures in
    let instance = c.set_statuses.ensures ∙ ap (λ (i : Instance). let j : Instance = record i { status = x.status; overridden = x.overridden } in j) c.in_ok-instance.ensures in
    let term = c.begun-lease.ensures ∙ ap (λ (a : Term). let b : Term = record a { up = up_after a.up c.judge_statuses-statuses.result.status c.args.moment } in b) (c.fresh-fresh.ensures ∙ ap (λ secs. fresh c.args.moment secs) c.secs.ensures) in
    joins_from _ _ c.args.instance.now c.args.instance.now c.args.replicated c.args.moment None c.new-held.result c.args.context.row _ _
    refl refl refl refl refl
    (s.row ∙ ap (row_after row) over)
    (s.overridden ∙ ap (λ (v : Status). unwrap_or (row_after row v) v) over)
    (s.status ∙ (λ i. rule (c.status.ensures i) (row_after row (over i)) None c.args.replicated))
    (c.new-held.ensures ∙ (λ i. listed_with (instance i) (term i)))

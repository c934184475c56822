use Rattle.std.proofs.Common.{refl, ap, ◌∙◌}
use Rattle.std.specs.Prelude.{Some, unwrap_or}
use Rattle.eu_base.specs.declared.instances.Instance.{Instance}
use Rattle.eu_base.specs.declared.statuses.Status.{Status}
use Rattle.eu_model.specs.Change.{rule, row_after, up_after}
use Rattle.eu_lease.specs.Term.{Term, anew, listed_with}
use Rattle.eu_core.proofs.JoinLemmas.{joins_from, chosen_over}
use Rattle.eu_core.proofs.joins.join_over.Goals as goal

pub returns-clause-joins : goal.returns-clause-joins
returns-clause-joins c =
    let l = c.args.held.now in
    let n = c.args.instance.now in
    let row = c.args.context.row in
    let x = c.judge_statuses-statuses.result in
    let s = c.judge_statuses-statuses.ensures in
    let over = c.overridden.ensures in
    let held = c.status-2.ensures ∙ ap (λ (i : Instance). i.status) c.instance.ensures in
    let instance = c.set_statuses.ensures ∙ ap (λ (i : Instance). let j : Instance = record i { status = x.status; overridden = x.overridden } in j) c.in_ok-instance.ensures in
    let term = c.begun-lease.ensures ∙ ap (λ (a : Term). let b : Term = record a { up = up_after a.up c.judge_statuses-statuses.result.status c.args.moment } in b)
    (c.anew-anew.ensures ∙ (λ i. anew (c.lease.ensures i) c.args.moment (c.secs.ensures i))) in
    joins_from _ _ n n c.args.replicated c.args.moment (Some l) c.new-held.result row _ _
    refl refl refl refl
    (chosen_over l n c.requires)
    (s.row ∙ ap (row_after row) over)
    (s.overridden ∙ ap (λ (v : Status). unwrap_or (row_after row v) v) over)
    (s.status ∙ (λ i. rule (c.status.ensures i) (row_after row (over i)) (Some (held i)) c.args.replicated))
    (c.new-held.ensures ∙ (λ i. listed_with (instance i) (term i)))

use Rattle.std.proofs.Common.{sym, ap, ◌∙◌, false}
use Rattle.std.specs.Prelude.{Some}
use Rattle.std.specs.Option.{option_copied}
use Rattle.eu_base.specs.declared.instances.Instance.{Instance}
use Rattle.eu_model.specs.Change.{newer, row_after, joined, up_after, one_more}
use Rattle.eu_model.specs.declared.commands.Reply.TheVariants.{Registered}
use Rattle.eu_audit_changes.proofs.ChangedLemmas.{registered}
use Rattle.eu_audit_changes.proofs.changes.register.Goals as goal

pub returns : goal.returns
returns c =
    let held = option_copied c.args.held in
    let n = c.args.instance.now in
    let t = c.args.moment in
    let before = c.instance_of-before.ensures in
    let left = c.in_ok-left.ensures ∙ ap (λ b. joined b c.args.row n c.args.replicated) before in
    let status = c.status.ensures ∙ ap (λ (i : Instance). i.status) left in
    let fresh = c.is_absent-fresh.ensures in
    let row = c.row_after-row_then.ensures ∙ ap (row_after c.args.row) (c.newer_overridden.ensures ∙ ap (λ b. (newer b n).overridden) before) in
    let up = c.up_after.ensures ∙ (λ i. up_after (c.first_up.ensures i) (status i) t) in
    let expected = c.one_more.ensures ∙ ap (λ b. one_more b c.args.expected) fresh in
    (λ i. record {
      lease = Some (record { instance = left i; times = record { registered = c.ms.ensures.value i; updated = c.ms-2.ensures.value i; up = up i } });
      row = row i;
      expected = expected i;
      counted = false;
      reply = Registered (fresh i);
    }) ∙ sym (registered held c.args.row c.args.expected n c.args.replicated t)

use Rattle.std.proofs.Common.{is_some, ap, ◌∙◌}
use Rattle.std.specs.Map.{lookup, values_of}
use Rattle.eu_model.specs.Server.{waits}
use Rattle.eu_audit_queue.specs.Names.{names_eq}
use Rattle.eu_audit_queue.proofs.LineLemmas.{has-lookup}
use Rattle.eu_audit_queue.proofs.order.Order.has.Goals as goal

pub returns : goal.returns
returns c =
    let task = c.args.task.now in
    c.contains.ensures ∙ (λ i. is_some (lookup (names_eq (c.in_ok-name.ensures i)) (c.self.invariant.0 i)))
    ∙ has-lookup _ (values_of c.self.inside.tasks.entries) ∙ ap (waits task) c.self.view_is

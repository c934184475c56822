use Rattle.std.proofs.Common.{ap, ◌∙◌}
use Rattle.eu_model.specs.declared.commands.Command.TheVariants.{Update}
use Rattle.eu_core.specs.Undone.{undone}
use Rattle.eu_core.proofs.StepLemmas.{update_plain}
use Rattle.eu_core.proofs.UndoLemmas.{update_undone}
use Rattle.eu_core.proofs.registry.Registry.step_update.Goals as goal

pub on_no_lease-requires : goal.on_no_lease-requires
on_no_lease-requires c = update_plain 0 c.args.self.now c.update-reply.new.self c.update-reply.result (c.update-reply.ensures 0)

pub returns-clause-undo : goal.returns-clause-undo
returns-clause-undo c =
    ap (λ u. undone Update u c.update-reply.new.self) (c.on_no_lease.ensures.undo ∙ c.expected_before-undo.ensures)
    ∙ update_undone 0 c.args.self.now c.update-reply.new.self c.update-reply.result (c.update-reply.ensures 0)

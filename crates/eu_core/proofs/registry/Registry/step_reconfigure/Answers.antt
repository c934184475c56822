use Rattle.std.proofs.Common.{ap, ◌∙◌}
use Rattle.eu_model.specs.declared.commands.Command.TheVariants.{Reconfigure}
use Rattle.eu_core.specs.Undone.{undone}
use Rattle.eu_core.proofs.StepLemmas.{reconfigure_plain}
use Rattle.eu_core.proofs.UndoLemmas.{reconfigure_undone}
use Rattle.eu_core.proofs.registry.Registry.step_reconfigure.Goals as goal

pub on_no_lease-requires : goal.on_no_lease-requires
on_no_lease-requires c = reconfigure_plain 0 c.args.self.now c.reconfigure-reply.new.self c.reconfigure-reply.result c.args.config.now (c.reconfigure-reply.ensures 0)

pub returns-clause-undo : goal.returns-clause-undo
returns-clause-undo c =
    ap (λ u. undone (Reconfigure c.args.config.now) u c.reconfigure-reply.new.self) (c.on_no_lease.ensures.undo ∙ c.settings_before-undo.ensures)
    ∙ reconfigure_undone 0 c.args.self.now c.reconfigure-reply.new.self c.reconfigure-reply.result c.args.config.now (c.reconfigure-reply.ensures 0)

use Rattle.std.proofs.Common.{ap, ◌∙◌}
use Rattle.eu_model.specs.declared.commands.Command.TheVariants.{EndMinute}
use Rattle.eu_core.specs.Undone.{undone}
use Rattle.eu_core.proofs.StepLemmas.{end_minute_plain}
use Rattle.eu_core.proofs.UndoLemmas.{end_minute_undone}
use Rattle.eu_core.proofs.registry.Registry.step_end_minute.Goals as goal

pub on_no_lease-requires : goal.on_no_lease-requires
on_no_lease-requires c = end_minute_plain 0 c.args.self.now c.end_minute-reply.new.self c.end_minute-reply.result (c.end_minute-reply.ensures 0)

pub returns-clause-undo : goal.returns-clause-undo
returns-clause-undo c =
    ap (λ u. undone EndMinute u c.end_minute-reply.new.self) (c.on_no_lease.ensures.undo ∙ c.minute_before-undo.ensures)
    ∙ end_minute_undone 0 c.args.self.now c.end_minute-reply.new.self c.end_minute-reply.result (c.end_minute-reply.ensures 0)

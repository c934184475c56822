use Rattle.std.proofs.Common.{ap, sym, ◌∙◌, arith}
use Rattle.eu_outbox.specs.Steps.{gave_all}
use Rattle.eu_outbox.proofs.TaskLemmas.{gave_all-push}
use Rattle.eu_outbox.proofs.waiting.Line.give_back_all.Goals as goal

pub loop-task-preserved : goal.loop-task-preserved
loop-task-preserved c = record {
  given =
      ap (gave_all c.args.moment c.pop.new.self.items) c.give_back.ensures.tasks
      ∙ sym (gave_all-push c.args.moment c.pop.new.self.items c.in-Some.task c.loop-task.self.tasks)
      ∙ ap (λ l. gave_all c.args.moment l c.loop-task.self.tasks) (sym c.in-Some.ensures.items)
      ∙ c.loop-task.invariant.given;
  room = omega (arith, c.in-Some.ensures.cases);
}

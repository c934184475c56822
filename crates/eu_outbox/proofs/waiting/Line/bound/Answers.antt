use Rattle.std.proofs.Common.{◌<◌, length, ap, ◌∙◌, arith}
use Rattle.eu_model.specs.Server.{bounded}
use Rattle.eu_outbox.proofs.TaskLemmas.{bounded-drop}
use Rattle.eu_outbox.proofs.waiting.Line.bound.Goals as goal

pub loop-self-preserved : goal.loop-self-preserved
loop-self-preserved c =
    let many : 10000 < length c.loop-self.self.tasks = omega (arith, c.len.ensures) in
    record { same = ap bounded c.drop_first.ensures.tasks ∙ bounded-drop c.loop-self.self.tasks many ∙ c.loop-self.invariant.same; room = omega arith }

use Rattle.std.proofs.Common.{◌≡◌, ◌≤◌, vec_len}
use Rattle.eu_outbox.specs.Steps.{gave_all}
use Rattle.eu_outbox.proofs.waiting.Line.give_back_all.Given as goal

-- what is left leads to the whole
abbrev pub invariant-loop-task : goal.invariant-loop-task
invariant-loop-task l = record {
  given : gave_all l.moment l.tasks.items l.self.tasks ≡ gave_all l.moment l.fn.tasks.items l.fn.self.tasks;
  room : vec_len l.tasks ≤ l.self.room;
}

abbrev pub decreases-loop-task : goal.decreases-loop-task
decreases-loop-task l = goal.left-loop-task l

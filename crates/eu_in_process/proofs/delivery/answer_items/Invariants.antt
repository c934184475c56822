use Rattle.std.proofs.Common.{◌≡◌, ◌≤◌, ◌+◌, ◌++◌, length, vec_len}
use Rattle.std.specs.Vec.{vec_capacity}
use Rattle.eu_model.specs.Chain.{Pairs}
use Rattle.eu_in_process.specs.Delivery.{AnswersItem}
use Rattle.eu_in_process.proofs.delivery.answer_items.Given as goal

abbrev pub invariant-loop-command : goal.invariant-loop-command
invariant-loop-command g l = record {
  room : vec_len l.items + length l.command-iterator.rest.items ≤ vec_capacity l.items;
  whole : l.fn.commands.items ≡ l.yielded ++ l.command-iterator.rest.items;
  made : Pairs (λ s command item s'. AnswersItem g.D.Desk.asked l.moment s command item s') l.fn.desk l.yielded l.items.items l.desk;
}

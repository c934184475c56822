use Rattle.std.proofs.Common.{◌≡◌, ◌≤◌, ◌+◌, ◌++◌, length, vec_len}
use Rattle.std.specs.Vec.{vec_capacity}
use Rattle.eu_model.specs.Chain.{Pairs}
use Rattle.eu_session.proofs.turn.ask_all.Given as goal

abbrev pub invariant-loop-ask : goal.invariant-loop-ask
invariant-loop-ask g l = record {
  room : vec_len l.results + length l.ask-iterator.rest.items ≤ vec_capacity l.results;
  whole : l.fn.asks.items ≡ l.yielded ++ l.ask-iterator.rest.items;
  made : Pairs (λ s ask result s'. g.D.Desk.asked s ask l.moment result s') l.fn.desk l.yielded l.results.items l.desk;
}

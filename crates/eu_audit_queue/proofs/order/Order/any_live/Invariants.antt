use Rattle.std.proofs.Common.{◌≡◌}
use Rattle.std.specs.Map.{values_of}
use Rattle.eu_model.specs.Server.{live}
use Rattle.eu_audit_queue.proofs.order.Order.any_live.Given as goal

-- what is left has all that are worth sending
abbrev pub invariant-loop-name : goal.invariant-loop-name
invariant-loop-name l = record {
  can : (goal.iterator-loop-name).can_next l._name-iterator;
  finite : (goal.iterator-loop-name).is_finite l._name-iterator;
  rest : live l.moment (values_of l._name-iterator) ≡ live l.moment l.self;
}

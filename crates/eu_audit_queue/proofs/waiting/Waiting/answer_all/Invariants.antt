use Rattle.std.proofs.Common.{◌≡◌, drop}
use Rattle.std.specs.Slice.Iter.{iter_rest}
use Rattle.eu_model.specs.Server.{after_codes}
use Rattle.eu_audit_queue.proofs.waiting.Waiting.answer_all.Given as goal

-- what is left leads to the whole
abbrev pub invariant-loop-task : goal.invariant-loop-task
invariant-loop-task l = record {
  can : goal.iterator-loop-task.can_next l.codes;
  finite : goal.iterator-loop-task.is_finite l.codes;
  answered : after_codes l.moment (drop l.task-index l.batch) (iter_rest l.codes) l.self ≡ after_codes l.moment l.batch l.fn.codes l.fn.self;
}

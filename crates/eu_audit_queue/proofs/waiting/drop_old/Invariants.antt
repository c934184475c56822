use Rattle.std.proofs.Common.{◌≡◌, length}
use Rattle.eu_model.specs.Server.{live}
use Rattle.eu_audit_queue.specs.Names.{AreNoted}
use Rattle.eu_audit_queue.proofs.waiting.drop_old.Given as goal

-- the tasks that are worth sending are still there
abbrev pub invariant-loop-name : goal.invariant-loop-name
invariant-loop-name l = record {
  noted : AreNoted l.ages l.order;
  same : live l.moment l.order ≡ live l.moment l.fn.order;
}

abbrev pub decreases-loop-name : goal.decreases-loop-name
decreases-loop-name l = length l.ages.keys

use Rattle.std.proofs.Common.{vec_len}
use Rattle.eu_audit.proofs.server.+queues_with.Given as goal

abbrev pub decreases-queues_with : goal.decreases-queues_with
decreases-queues_with l = vec_len l.queues

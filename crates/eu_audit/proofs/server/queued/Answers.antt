use Rattle.std.proofs.Common.{sym, ap, ◌∙◌, map}
use Rattle.eu_model.specs.Server.{with_task}
use Rattle.eu_audit.proofs.QueueLemmas.{none_told}
use Rattle.eu_audit.proofs.server.queued.Goals as goal

pub returns-in-None : goal.returns-in-None
returns-in-None c = none_told c.args.queues.items ∙ ap (λ task. map (with_task task) c.args.queues.items) (sym c.in-None.is)

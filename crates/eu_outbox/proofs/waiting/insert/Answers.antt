use Rattle.std.proofs.Common.{ap, ◌∙◌, map}
use Rattle.eu_outbox.specs.Steps.{task_of}
use Rattle.eu_outbox.proofs.EntryLemmas.{at_ok, inserted}
use Rattle.eu_outbox.proofs.waiting.insert.Goals as goal

pub returns-clause-tasks : goal.returns-clause-tasks
returns-clause-tasks c =
    ap (map task_of) (at_ok _ c.insert.ensures.entries c.unwrap.ensures) ∙ inserted c.args.name c.args.waiting c.args.entries.now.entries c.len-len.ensures.unique

use Rattle.std.proofs.Common.{ap, ◌∙◌, reverse}
use Rattle.eu_outbox.specs.Steps.{in_line}
use Rattle.eu_outbox.proofs.EntryLemmas.{turned}
use Rattle.eu_outbox.proofs.waiting.turn.Goals as goal

pub returns-then-is_empty-clause-tasks : goal.returns-then-is_empty-clause-tasks
returns-then-is_empty-clause-tasks c =
    (λ i. in_line (let e = c.reverse.ensures.entries ∙ ap (λ m. reverse m.entries) c.swap.ensures.x_after in e i) (c.swap.ensures.y_after i).entries)
    ∙ turned c.args.older.now.entries c.args.newer.now.entries (c.is_empty.ensures.0 c.if-is_empty.true)

use Rattle.std.proofs.Common.{sym, ◌∙◌}
use Rattle.eu_core.proofs.RowLemmas.{same_row, with_row-same}
use Rattle.eu_core.proofs.decision.write_row.Goals as goal

pub returns-then-eq : goal.returns-then-eq
returns-then-eq c =
    sym (with_row-same c.args.overrides.now.rows c.args.id.now c.args.after (sym c.requires.before ∙ same_row c.args.before c.args.after c.if-eq.ensures))

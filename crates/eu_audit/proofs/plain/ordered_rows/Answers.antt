use Rattle.std.proofs.Common.{sym, ◌∙◌, true≢false}
use Rattle.eu_base.proofs.KeyLemmas.{names_total}
use Rattle.eu_audit.proofs.TableLemmas.{of_entries, not_ordered}
use Rattle.eu_audit.proofs.plain.ordered_rows.Goals as goal

pub returns-then-not-same-clause-none : goal.returns-then-not-same-clause-none
returns-then-not-same-clause-none c =
    λ _. not_ordered names_total c.in_ok-table.table c.args.overrides.now c.in_ok-table.ensures (λ same. true≢false (sym (c.same.ensures.1 same) ∙ c.if-not-same.true))

pub returns-clause-in_order : goal.returns-clause-in_order
returns-clause-in_order c = (of_entries names_total c.in_ok-table.table c.args.overrides.now (c.same.ensures.0 c.if-not-same.false)).0

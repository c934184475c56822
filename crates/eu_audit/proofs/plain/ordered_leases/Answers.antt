use Rattle.std.proofs.Common.{length, sym, ap, ◌∙◌, true≢false}
use Rattle.std.specs.FinMap.{len-entries}
use Rattle.eu_base.proofs.KeyLemmas.{keys_total}
use Rattle.eu_model.specs.View.{by_key}
use Rattle.eu_audit.proofs.TableLemmas.{of_entries, not_ordered}
use Rattle.eu_audit.proofs.PlainLemmas.{length-by_key}
use Rattle.eu_audit.proofs.plain.ordered_leases.Goals as goal

pub returns-then-not-same-clause-none : goal.returns-then-not-same-clause-none
returns-then-not-same-clause-none c =
    λ _. not_ordered keys_total c.in_ok-table.table (by_key c.args.leases.now) c.in_ok-table.ensures (λ same. true≢false (sym (c.same.ensures.1 same) ∙ c.if-not-same.true))

pub returns-clause-some : goal.returns-clause-some
returns-clause-some c =
    let m = c.in_ok-table.table in
    (c.in_ok-table.ensures, len-entries m ∙ ap length (c.same.ensures.0 c.if-not-same.false) ∙ length-by_key c.args.leases.now)

pub returns-clause-in_order : goal.returns-clause-in_order
returns-clause-in_order c = (of_entries keys_total c.in_ok-table.table (by_key c.args.leases.now) (c.same.ensures.0 c.if-not-same.false)).0

use Rattle.std.proofs.Common.{◌+◌, ◌∙◌, sym, ap, arith}
use Rattle.eu_audit_tables.specs.Counted.{counted, count_at, one_before}
use Rattle.eu_audit_tables.proofs.CountLemmas.{count_at-le, counted-one_more}
use Rattle.eu_audit_tables.proofs.deadlines.Deadlines.add.Goals as goal

pub overflow_add-count : goal.overflow_add-count
overflow_add-count c = omega (arith, c.count-count.ensures, count_at-le c.args.self.now c.args.deadline)

pub returns-clause-ok : goal.returns-clause-ok
returns-clause-ok c = λ limit.
    let counts = c.self.inside.counts.entries in
    let count = c.count-count.ensures ∙ ap (λ cs. count_at cs c.args.deadline) (sym c.self.view_is) in
    ap (λ cs. counted cs limit) c.in_ok-insert.ensures.entries
    ∙ counted-one_more counts c.args.deadline c.count-count.result limit c.insert.ensures.was_ordered count
    ∙ ap (λ cs. counted cs limit + one_before c.args.deadline limit) c.self.view_is

use Rattle.std.proofs.Common.{◌≡◌, ◌+◌, ◌<◌, ◌∙◌, sym, ap, subst, arith}
use Rattle.eu_audit_tables.specs.Counted.{counted, count_at, one_before}
use Rattle.eu_audit_tables.proofs.MapLemmas.{at_ok}
use Rattle.eu_audit_tables.proofs.CountLemmas.{counted-one_less, counted-last_one, counted-some}
use Rattle.eu_audit_tables.proofs.deadlines.Deadlines.take.Goals as goal

pub returns-then-count-gt1 : goal.returns-then-count-gt1
returns-then-count-gt1 c = λ limit.
    let counts = c.self.inside.counts.entries in
    let count = c.count-count.ensures ∙ ap (λ cs. count_at cs c.args.deadline) (sym c.self.view_is) in
    ap (λ cs. counted cs limit + one_before c.args.deadline limit) (at_ok _ c.insert-put.ensures.entries c.unwrap.ensures)
    ∙ counted-one_less counts c.args.deadline c.count-count.result limit c.insert-put.ensures.was_ordered count (omega arith)
    ∙ ap (λ cs. counted cs limit) c.self.view_is

pub returns-else-count-gt1 : goal.returns-else-count-gt1
returns-else-count-gt1 c = λ limit.
    let counts = c.self.inside.counts.entries in
    let more = subst (λ cs. counted cs c.args.deadline < counted cs (c.args.deadline + 1)) (sym c.self.view_is) c.requires in
    let some = counted-some counts c.remove.new.self.entries c.args.deadline c.remove.ensures.entries c.remove.ensures.ordered c.remove.ensures.updates.1 more in
    let count = c.count-count.ensures ∙ ap (λ cs. count_at cs c.args.deadline) (sym c.self.view_is) in
    let one : count_at counts c.args.deadline ≡ 1 = omega (arith, count) in
    ap (λ cs. counted cs limit + one_before c.args.deadline limit) c.remove.ensures.entries
    ∙ counted-last_one counts c.args.deadline limit one
    ∙ ap (λ cs. counted cs limit) c.self.view_is

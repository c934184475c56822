use Rattle.std.proofs.Common.{◌≡◌, ◌≤◌, ◌++◌, [], length, take, drop, option_to_list, IfNone, ap, subst, sym, ◌∙◌, arith}
use Rattle.std.proofs.lemmas.List.{append-nil, drop_all, drop_at, take_all, take_at}
use Rattle.eu_audit_queue.specs.PlainQueue.{are_apart}
use Rattle.eu_audit_queue.proofs.ApartLemmas.{apart_take}
use Rattle.eu_audit_queue.proofs.waiting.Waiting.pop_batch.Goals as goal

pub returns-in-None-clause-rest : goal.returns-in-None-clause-rest
returns-in-None-clause-rest c =
    let none : c.tasks.self ≡ [] = subst (λ first. IfNone first (c.tasks.self ≡ [])) c.in-None.is c.pop_first.ensures.none in
    let whole : c.tasks.batch.items ≡ c.args.self.now =
    sym (append-nil c.tasks.batch.items) ∙ ap (λ l. c.tasks.batch.items ++ l) (sym none) ∙ c.tasks.invariant.whole in
    let short : length c.args.self.now ≤ 250 = omega (arith, ap length whole, c.tasks.invariant.few) in
    let rest : c.tasks.self ≡ c.pop_first.new.self = subst (λ first. c.tasks.self ≡ option_to_list first ++ c.pop_first.new.self) c.in-None.is c.pop_first.ensures.items in
    sym rest ∙ none ∙ sym (drop_all 250 c.args.self.now short)

pub returns-in-None-clause-batch : goal.returns-in-None-clause-batch
returns-in-None-clause-batch c =
    let none : c.tasks.self ≡ [] = subst (λ first. IfNone first (c.tasks.self ≡ [])) c.in-None.is c.pop_first.ensures.none in
    let whole : c.tasks.batch.items ≡ c.args.self.now =
    sym (append-nil c.tasks.batch.items) ∙ ap (λ l. c.tasks.batch.items ++ l) (sym none) ∙ c.tasks.invariant.whole in
    let short : length c.args.self.now ≤ 250 = omega (arith, ap length whole, c.tasks.invariant.few) in
    whole ∙ sym (take_all 250 c.args.self.now short)

pub returns-clause-rest : goal.returns-clause-rest
returns-clause-rest c =
    let full : length c.tasks.batch.items ≡ 250 = omega (arith, c.tasks.invariant.few, c.tasks-test.false, c.len-in-tasks.ensures) in
    sym (drop_at c.tasks.batch.items c.tasks.self 250 full) ∙ ap (drop 250) c.tasks.invariant.whole

pub returns-clause-batch : goal.returns-clause-batch
returns-clause-batch c =
    let full : length c.tasks.batch.items ≡ 250 = omega (arith, c.tasks.invariant.few, c.tasks-test.false, c.len-in-tasks.ensures) in
    sym (take_at c.tasks.batch.items c.tasks.self 250 full) ∙ ap (take 250) c.tasks.invariant.whole

pub returns-clause-apart : goal.returns-clause-apart
returns-clause-apart c =
    let full : length c.tasks.batch.items ≡ 250 = omega (arith, c.tasks.invariant.few, c.tasks-test.false, c.len-in-tasks.ensures) in
    ap are_apart (sym (take_at c.tasks.batch.items c.tasks.self 250 full) ∙ ap (take 250) (c.tasks.invariant.whole ∙ sym c.self.view_is))
    ∙ apart_take 250 c.self.inside.order c.len.ensures.apart

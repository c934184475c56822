use Rattle.std.proofs.Common.{◌≡◌, ◌+◌, ◌∙◌, ap, subst, arith, rules}
use Rattle.std.specs.Map.{keys_of}
use Rattle.std.specs.Ordering.{nat_cmp}
use Rattle.std.specs.List.Sorted.{IsStrictlySortedBy}
use Rattle.std.proofs.lemmas.Map.Keys.{sorted_tail}
use Rattle.eu_audit_tables.specs.Counted.{counted}
use Rattle.eu_audit_tables.proofs.CountLemmas.{counted-over, counted-within}
use Rattle.eu_audit_tables.proofs.deadlines.Deadlines.number_before.Goals as goal

pub returns-then-deadline-limit : goal.returns-then-deadline-limit
returns-then-deadline-limit c =
    let up = subst (λ cs. IsStrictlySortedBy nat_cmp (keys_of cs)) c.in-Some.ensures.steps c.loop-deadline.invariant.ordered in
    let none : counted c.loop-deadline.deadline-iterator c.from-limit.result ≡ 0 =
    ap (λ cs. counted cs c.from-limit.result) c.in-Some.ensures.steps ∙ counted-over (c.in-Some.deadline.now, c.in-Some.count.now) c.next.new.self c.from-limit.result up c.if-deadline-limit.true in
    omega (arith, none, c.loop-deadline.invariant.same, ap (counted c.args.self.now) c.from-limit.ensures)

pub loop-deadline-preserved : goal.loop-deadline-preserved
loop-deadline-preserved c =
    let up = subst (λ cs. IsStrictlySortedBy nat_cmp (keys_of cs)) c.in-Some.ensures.steps c.loop-deadline.invariant.ordered in
    let more : counted c.loop-deadline.deadline-iterator c.from-limit.result ≡ c.in-Some.count.now + counted c.next.new.self c.from-limit.result =
    ap (λ cs. counted cs c.from-limit.result) c.in-Some.ensures.steps ∙ counted-within (c.in-Some.deadline.now, c.in-Some.count.now) c.next.new.self c.from-limit.result (omega arith) in
    record {
      can = search rules;
      finite = search rules;
      ordered = sorted_tail nat_cmp c.in-Some.deadline.now (keys_of c.next.new.self) up;
      same = omega (arith, more, c.loop-deadline.invariant.same);
    }

use Rattle.std.proofs.Common.{◌≡◌, ◌∷◌, ◌++◌, [], true, length, ap, sym, ◌∙◌, arith}
use Rattle.std.proofs.lemmas.List.{append_assoc}
use Rattle.eu_audit_queue.specs.PlainQueue.{are_apart}
use Rattle.eu_audit_queue.proofs.ApartLemmas.{apart_first, apart_last}
use Rattle.eu_audit_queue.proofs.waiting.Waiting.push_all_first.Goals as goal

pub push_first-requires-clause-new : goal.push_first-requires-clause-new
push_first-requires-clause-new c =
    let front = c.pop_back.new.self.items in
    let old = c.loop-task.self in
    let apart : are_apart (front ++ c.in-Some.task ∷ old) ≡ true =
    ap are_apart (sym (append_assoc front (c.in-Some.task ∷ []) old) ∙ ap (λ l. l ++ old) (sym c.in-Some.ensures.items) ∙ c.loop-task.invariant.whole) ∙ c.requires.apart in
    apart_first c.in-Some.task old (apart_last front (c.in-Some.task ∷ old) apart)

pub loop-task-preserved : goal.loop-task-preserved
loop-task-preserved c =
    let front = c.pop_back.new.self.items in
    let old = c.loop-task.self in
    record {
      whole =
          ap (λ l. front ++ l) c.in_ok-push_first.ensures ∙ sym (append_assoc front (c.in-Some.task ∷ []) old)
          ∙ ap (λ l. l ++ old) (sym c.in-Some.ensures.items) ∙ c.loop-task.invariant.whole;
      few = omega (arith, c.loop-task.invariant.few, c.in-Some.ensures.cases, ap length c.in_ok-push_first.ensures);
    }

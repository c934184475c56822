use Rattle.std.proofs.Common.{◌≤◌, ◌∷◌, [], ◌++◌, take, ap, sym, ◌∙◌, arith}
use Rattle.std.proofs.lemmas.List.{append_assoc}
use Rattle.eu_outbox.proofs.EntryLemmas.{rest_taken, front_taken, none_dropped, all_taken}
use Rattle.eu_outbox.proofs.waiting.Line.send.Goals as goal

pub returns-in_default-clause-tasks : goal.returns-in_default-clause-tasks
returns-in_default-clause-tasks c =
    let few : c.loop.counter ≤ 250 = omega arith in
    sym c.in_default.ensures.tasks ∙ c.in_default.ensures.none
    ∙ sym (none_dropped c.loop.counter 250 c.args.self.now.tasks (sym c.loop.invariant.tasks ∙ c.in_default.ensures.none) few)

pub returns-in_default-clause-batch : goal.returns-in_default-clause-batch
returns-in_default-clause-batch c =
    let few : c.loop.counter ≤ 250 = omega arith in
    c.loop.invariant.batch
    ∙ ap (λ l. c.args.batch.now.items ++ l) (all_taken c.loop.counter 250 c.args.self.now.tasks (sym c.loop.invariant.tasks ∙ c.in_default.ensures.none) few)

pub loop-preserved : goal.loop-preserved
loop-preserved c =
    let next = sym c.loop.invariant.tasks ∙ c.in-Some.ensures.tasks in
    record {
      tasks = rest_taken c.loop.counter c.args.self.now.tasks c.in-Some.task c.take_first.new.self.tasks next;
      batch =
          c.push_reserved.ensures.items
          ∙ ap (λ l. l ++ c.in-Some.task ∷ []) c.loop.invariant.batch
          ∙ append_assoc c.args.batch.now.items (take c.loop.counter c.args.self.now.tasks) (c.in-Some.task ∷ [])
          ∙ ap (λ l. c.args.batch.now.items ++ l) (front_taken c.loop.counter c.args.self.now.tasks c.in-Some.task c.take_first.new.self.tasks next);
      len = omega (arith, c.push_reserved.ensures.len);
      room = c.push_reserved.ensures.capacity ∙ c.loop.invariant.room;
    }

use Rattle.std.proofs.Common.{◌≡◌, ◌++◌, ◌∷◌, false, not, drop, map}
use Rattle.serde_json.specs.View.{items_of}
use Rattle.serde_json.specs.Written.{items_text}
use Rattle.eu_json.specs.Batch.{task_tree}
use Rattle.eu_json.proofs.batch_write.append_tasks.Given as goal

abbrev pub invariant-loop-task : goal.invariant-loop-task
invariant-loop-task l =
    l.out.items ++ items_text (not l.first) (items_of (map task_tree (drop l.task-index l.tasks))) ≡ l.fn.out.items ++ 91 ∷ items_text false (items_of (map task_tree l.tasks))

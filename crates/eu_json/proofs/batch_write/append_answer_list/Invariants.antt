use Rattle.std.proofs.Common.{◌≡◌, ◌++◌, ◌∷◌, false, not, drop, map}
use Rattle.serde_json.specs.View.{items_of}
use Rattle.serde_json.specs.Written.{items_text}
use Rattle.eu_json.specs.Batch.{answer_tree}
use Rattle.eu_json.proofs.batch_write.append_answer_list.Given as goal

abbrev pub invariant-loop-answer : goal.invariant-loop-answer
invariant-loop-answer l =
    l.out.items ++ items_text (not l.first) (items_of (map answer_tree (drop l.answer-index l.answers))) ≡ l.fn.out.items ++ 91 ∷ items_text false (items_of (map answer_tree l.answers))

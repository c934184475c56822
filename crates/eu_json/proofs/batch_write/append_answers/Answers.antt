use Rattle.std.proofs.Common.{◌++◌, codes, map, ap, ◌∙◌}
use Rattle.serde_json.specs.Written.{compact_text}
use Rattle.eu_json.specs.Batch.{answer_tree}
use Rattle.eu_json.specs.Tree.{list_tree}
use Rattle.eu_json.proofs.LeadLemmas.{three, answers_text}
use Rattle.eu_json.proofs.batch_write.append_answers.Goals as goal

pub returns : goal.returns
returns c =
    let o = c.args.out.now.items in
    let d = list_tree (map answer_tree c.args.answers.now) in
    let list = c.in_ok-append_answer_list.ensures ∙ ap (λ s. s ++ compact_text d) c.in_ok-extend_from_slice.ensures.items in
    c.in_ok-extend_from_slice-2.ensures.items ∙ ap (λ s. s ++ codes "}") list
    ∙ three o (codes "{\"responseList\":") (compact_text d) (codes "}") ∙ ap (λ s. o ++ s) (answers_text d)

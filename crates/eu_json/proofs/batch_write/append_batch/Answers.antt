use Rattle.std.proofs.Common.{rules, ◌≡◌, ◌++◌, codes, map, ap, ◌∙◌}
use Rattle.serde_json.specs.Written.{compact_text}
use Rattle.eu_json.specs.Batch.{task_tree}
use Rattle.eu_json.specs.Tree.{list_tree}
use Rattle.eu_json.proofs.LeadLemmas.{three, batch_text}
use Rattle.eu_json.proofs.batch_write.append_batch.Goals as goal

pub returns : goal.returns
returns c =
    let o = c.args.out.now.items in
    let d = list_tree (map task_tree c.args.tasks.now) in
    let lead = codes "{\"replicationList\":" in
    let wrote : c.extend_from_slice-2.new.self.items ≡ ((o ++ lead) ++ compact_text d) ++ codes "}" = search rules in
    wrote ∙ three o lead (compact_text d) (codes "}") ∙ ap (λ s. o ++ s) (batch_text d)

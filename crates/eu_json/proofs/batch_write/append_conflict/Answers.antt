use Rattle.std.proofs.Common.{◌++◌, None, codes, decimal, ap, ◌∙◌}
use Rattle.serde_json.specs.Written.{compact_text}
use Rattle.eu_json.specs.Tree.{instance_tree}
use Rattle.eu_json.proofs.LeadLemmas.{three, conflict_text}
use Rattle.eu_json.proofs.batch_write.append_conflict.Goals as goal

pub returns : goal.returns
returns c =
    let o = c.args.out.now.items in
    let d = instance_tree c.args.instance.now None in
    let lead = codes "{\"responseEntity\":" in
    let end = codes ",\"statusCode\":" ++ (decimal c.args.code ++ codes "}") in
    let entity = c.in_ok-append_instance.ensures ∙ ap (λ s. s ++ compact_text d) c.in_ok-extend_from_slice.ensures.items in
    c.in_ok-extend_from_slice-2.ensures.items ∙ c.in_ok-append_number.ensures (codes "}") ∙ ap (λ s. s ++ end) entity
    ∙ three o lead (compact_text d) end ∙ ap (λ s. o ++ s) (conflict_text d c.args.code)

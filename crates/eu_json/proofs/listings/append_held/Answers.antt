use Rattle.std.proofs.Common.{rules, ◌≡◌, ◌++◌, codes, ap, ◌∙◌}
use Rattle.serde_json.specs.Written.{compact_text}
use Rattle.eu_json.specs.Tree.{instance_tree}
use Rattle.eu_json.proofs.LeadLemmas.{three, instance_text}
use Rattle.eu_json.proofs.listings.append_held.Goals as goal

pub returns : goal.returns
returns c =
    let o = c.args.out.now.items in
    let d = instance_tree c.args.instance.now c.args.times in
    let wrote : c.extend_from_slice-2.new.self.items ≡ ((o ++ codes "{\"instance\":") ++ compact_text d) ++ codes "}" = search rules in
    wrote ∙ three o (codes "{\"instance\":") (compact_text d) (codes "}") ∙ ap (λ s. o ++ s) (instance_text d)

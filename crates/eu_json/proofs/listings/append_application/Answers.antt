use Rattle.std.proofs.Common.{rules, ◌≡◌, ◌++◌, codes, ap, ◌∙◌}
use Rattle.serde_json.specs.Written.{compact_text}
use Rattle.eu_json.specs.Tree.{item_tree}
use Rattle.eu_json.proofs.LeadLemmas.{three, application_text}
use Rattle.eu_json.proofs.listings.append_application.Goals as goal

pub returns : goal.returns
returns c =
    let o = c.args.out.now.items in
    let d = item_tree c.args.held.now in
    let wrote : c.extend_from_slice-2.new.self.items ≡ ((o ++ codes "{\"application\":") ++ compact_text d) ++ codes "}" = search rules in
    wrote ∙ three o (codes "{\"application\":") (compact_text d) (codes "}") ∙ ap (λ s. o ++ s) (application_text d)

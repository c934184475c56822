use Rattle.std.proofs.Common.{rules, ◌≡◌, ◌++◌, codes, ap, ◌∙◌}
use Rattle.serde_json.specs.Written.{compact_text}
use Rattle.std.proofs.Common.{map}
use Rattle.serde_json.specs.Data.{string}
use Rattle.eu_json.specs.Tree.{app_of, list_tree, listed_tree}
use Rattle.eu_json.proofs.LeadLemmas.{five, item_text}
use Rattle.eu_json.proofs.listings.append_item.Goals as goal

pub returns : goal.returns
returns c =
    let o = c.args.out.now.items in
    let d = list_tree (map listed_tree c.args.held.now) in
    let e = string (app_of c.args.held.now) in
    let wrote : c.extend_from_slice-3.new.self.items ≡ ((((o ++ codes "{\"instance\":") ++ compact_text d) ++ codes ",\"name\":") ++ compact_text e) ++ codes "}" = search rules in
    wrote ∙ five o (codes "{\"instance\":") (compact_text d) (codes ",\"name\":") (compact_text e) (codes "}") ∙ ap (λ s. o ++ s) (item_text d e)

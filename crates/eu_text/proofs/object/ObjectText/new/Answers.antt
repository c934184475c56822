use Rattle.std.proofs.Common.{rules, ◌≡◌, [], ◌++◌, string_bytes, ap, ◌∙◌}
use Rattle.serde_json.specs.Data.{object}
use Rattle.serde_json.specs.View.{members_view}
use Rattle.serde_json.specs.Read.{max_depth}
use Rattle.eu_text.specs.Text.{led}
use Rattle.eu_text.proofs.ReadLemmas.{has_no_float}
use Rattle.eu_text.proofs.ObjectLemmas.{tree_is, object_text}
use Rattle.eu_text.proofs.object.ObjectText.new.Goals as goal

pub push_members-requires : goal.push_members-requires
push_members-requires c = has_no_float max_depth (object (members_view c.args.entries.now)) c.requires

pub invariant_of-result : goal.invariant_of-result
invariant_of-result c =
    let ms = members_view c.args.entries.now in
    let start : string_bytes c.in_ok-text.text ≡ [] = search rules in
    object_text _ _ ms (c.shrink_to_fit.ensures.bytes ∙ c.in_ok-cuts.ensures.text ∙ ap (λ b. b ++ led ms) start) c.in_ok-cuts.ensures.cuts c.requires

pub returns : goal.returns
returns c =
    let ms = members_view c.args.entries.now in
    let start : string_bytes c.in_ok-text.text ≡ [] = search rules in
    tree_is _ ms (c.shrink_to_fit.ensures.bytes ∙ c.in_ok-cuts.ensures.text ∙ ap (λ b. b ++ led ms) start) c.requires

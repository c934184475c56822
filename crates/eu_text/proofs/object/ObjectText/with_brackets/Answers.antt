use Rattle.std.proofs.Common.{rules, ◌≡◌, [], ◌∷◌, ◌++◌, string_bytes, sym, ap, ◌∙◌}
use Rattle.serde_json.specs.Read.{read}
use Rattle.eu_text.proofs.ObjectLemmas.{read_is}
use Rattle.eu_text.proofs.object.ObjectText.with_brackets.Goals as goal

pub returns : goal.returns
returns c =
    let inside = c.self.invariant in
    let text : string_bytes c.push_str-3.new.self ≡ 123 ∷ (c.without_comma-members.result.now ++ 125 ∷ []) = search rules in
    (inside.members, sym c.self.view_is ∙ inside.reads, ap read text ∙ read_is _ _ inside.members (c.as_str.ensures.value ∙ inside.is.is) c.without_comma-members.ensures.led c.without_comma-members.ensures.unled inside.fit)

use Rattle.std.proofs.Common.{◌≡◌, [], ◌∷◌, ◌++◌, refl, ap, ap₂, ◌∙◌, append-nil}
use Rattle.json.specs.Token.{string}
use Rattle.json.specs.Print.{print, print_from, quoted}
use Rattle.eu_text.proofs.append.append_escaped.Goals as goal

pub returns : goal.returns
unfolding print_from
returns c =
    let before = c.string.ensures.room.0 ∙ c.new-writer.ensures.before ∙ ap (λ v. v.items) c.replace.ensures.value in
    let tokens = c.in_ok-string.ensures.ok ∙ ap (λ ts. ts ++ string c.args.text.now ∷ []) c.new-writer.ensures.tokens in
    c.into_inner.ensures.items ∙ ap₂ (λ b ts. b ++ print ts) before tokens ∙ ap (λ s. c.args.out.now.items ++ s) (append-nil (quoted c.args.text.now))

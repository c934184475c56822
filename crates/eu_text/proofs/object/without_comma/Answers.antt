use Rattle.std.proofs.Common.{◌≡◌, ◌≢◌, ℕ, List, ◌∷◌, subst, arith}
use Rattle.std.specs.Option.{MatchOption}
use Rattle.std.proofs.lemmas.Str.Pattern.{strip_prefix_char}
use Rattle.eu_text.proofs.object.without_comma.Goals as goal

pub returns-in-None-clause-led : goal.returns-in-None-clause-led
returns-in-None-clause-led c =
    λ rest is.
    let text = c.args.text.now in
    let found = strip_prefix_char 44 text c.strip_prefix.result c.strip_prefix.ensures.cases (omega arith) in
    let none : (rest : List ℕ) → text ≢ 44 ∷ rest = subst (λ r. MatchOption r ((rest : List ℕ) → text ≢ 44 ∷ rest) (λ x. text ≡ 44 ∷ x.now)) c.in-None.is found in
    absurd (none rest is)

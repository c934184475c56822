use Rattle.std.proofs.Common.{◌≡◌, inr, length, refl, ap, ◌∙◌, arith}
use Rattle.std.proofs.lemmas.Bool.Decides.{nat_tests}
use Rattle.std.proofs.lemmas.List.{nil_from_length}
use Rattle.serde_json.specs.Read.{read}
use Rattle.eu_json.proofs.EmptyLemmas.{nothing_read}
use Rattle.eu_json.proofs.read.parse.Goals as goal

pub returns-then-is_empty-clause-said : goal.returns-then-is_empty-clause-said
returns-then-is_empty-clause-said c =
    let none : length c.args.text.now ≡ 0 = grind (arith, nat_tests, c.is_empty.ensures, c.if-is_empty.true) in
    inr (refl, ap read (nil_from_length c.args.text.now none) ∙ nothing_read)

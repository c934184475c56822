-- What was done for passes: with one more at their end, and compared
use Rattle.std.proofs.Common.{◌≡◌, List, [], ◌∷◌, ◌++◌, sym, ap, ◌∙◌, arith, false}
use Rattle.std.specs.Prelude.{◌==◌, ◌&&◌, not}
use Rattle.std.proofs.lemmas.Bool.Decides.{nat_tests}
use Rattle.eu_model.specs.declared.tallies.Tally.{Tally}
use Rattle.eu_book.proofs.HistoryLemmas.{nothing_plus, plus_assoc, plus_nothing}
use Rattle.eu_model.specs.Delta.{plus}
use Rattle.eu_shared.specs.Passes.{PassAccount, done_for}

pub done_for_push : (ps : List PassAccount) (p : PassAccount) → done_for (ps ++ p ∷ []) ≡ plus (done_for ps) p.tally
done_for_push [] p = plus_nothing p.tally ∙ sym (nothing_plus p.tally)
done_for_push (x ∷ ps) p = ap (plus x.tally) (done_for_push ps p) ∙ sym (plus_assoc x.tally (done_for ps) p.tally)

-- tallies whose numbers are found equal
pub tally_same : (a b : Tally) → false ≡ not ((a.steps == b.steps) && ((a.counted == b.counted) && ((a.added == b.added) && (a.removed == b.removed)))) → a ≡ b
tally_same a b same =
    let steps : a.steps ≡ b.steps = grind (arith, nat_tests) in
    let counted : a.counted ≡ b.counted = grind (arith, nat_tests) in
    let added : a.added ≡ b.added = grind (arith, nat_tests) in
    let removed : a.removed ≡ b.removed = grind (arith, nat_tests) in
    λ i. record { steps = steps i; counted = counted i; added = added i; removed = removed i }

use Rattle.std.proofs.Common.{◌/◌, ap, subst, ◌∙◌}
use Rattle.eu_store.specs.Order.{AreParts}
use Rattle.eu_store.specs.Sweep.{ArePartsOf}
use Rattle.eu_store.proofs.PartLemmas.{parts_taken}
use Rattle.eu_store.proofs.kept.forget.Goals as goal

pub returns-in-Some-clause-parts : goal.returns-in-Some-clause-parts
returns-in-Some-clause-parts c es fs d some last made right =
    let dir = c.in-Some.directory in
    let was : AreParts es dir.parts.items = subst (λ o. ArePartsOf es o) c.in-Some.is right in
    parts_taken es fs c.args.gone d dir.parts.items _ was some
    (λ n part at.
    let later = c.forget-in-Some.ensures.parts n part at in
    let left = c.forget.ensures.parts n part later.0 in
    (left.0, left.1, λ e. later.1 (ap (λ m. m / 512) last ∙ e)))
    made

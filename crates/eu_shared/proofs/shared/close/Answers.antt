use Rattle.std.proofs.Common.{sym, ◌∙◌}
use Rattle.std.proofs.lemmas.Result.{IfErr-weaker}
use Rattle.eu_shared.proofs.shared.close.Goals as goal

pub returns-clause-whole : goal.returns-clause-whole
returns-clause-whole g c = IfErr-weaker c.close.result _ _ (λ u is many. is.sums_are ∙ c.close.ensures.whole (many ∙ is.made_is) ∙ sym is.totals_are) c.close.ensures.unclosed

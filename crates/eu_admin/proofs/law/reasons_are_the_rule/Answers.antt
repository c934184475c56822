use Rattle.eu_model.specs.Machine.{last, threshold}
use Rattle.eu_admin.proofs.LawLemmas.{by_rule}
use Rattle.eu_admin.proofs.law.reasons_are_the_rule.Goals as goal

pub returns : goal.returns
returns c = λ s. by_rule s.config.preservation (threshold s.config s.expected) (last s.marks)

use Rattle.std.proofs.Common.{rules}
use Rattle.eu_shared.proofs.TrimLemmas.{trimmed_is}
use Rattle.eu_shared.proofs.pass.Pass.trim.Goals as goal

pub invariant_of-self : goal.invariant_of-self
invariant_of-self g c = (search rules, λ _. trimmed_is c.self.inside.journal_first c.self.inside.log.items c.trim_log.new.log.items c.trim_log.ensures.log)

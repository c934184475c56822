use Rattle.eu_shared.proofs.AnswerLemmas.{is_begun}
use Rattle.eu_shared.proofs.pass.Pass.checkpoint.Goals as goal

pub returns-clause-begun : goal.returns-clause-begun
returns-clause-begun g c = is_begun _ _ _ c.checkpoint_in.ensures.before c.in_ok-retired.ensures.pass

use Rattle.std.proofs.Common.{max, ap, ◌∙◌}
use Rattle.eu_shared.specs.Passes.{PassAccount}
use Rattle.eu_shared.proofs.pass.Pass.read.Goals as goal

pub returns-clause-view : goal.returns-clause-view
returns-clause-view g c = (
  _,
  c.snapshot.ensures.before,
  c.snapshot.ensures.after_own,
  (λ s e. c.in_ok-view.ensures ∙ c.in_ok-snapshot.ensures.view s e),
  c.see.ensures.journal_first ∙ (λ i. max (ap (λ (p : PassAccount). p.journal_first) (c.self.view_is ∙ c.snapshot.ensures.same.1) i) (c.in_ok-snapshot.ensures.first i)),
)

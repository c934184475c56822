use Rattle.eu_routes.proofs.PathLemmas.{no_prefix}
use Rattle.eu_routes.proofs.paths.after_prefix.Goals as goal

pub returns-in_err-front-clause-none : goal.returns-in_err-front-clause-none
returns-in_err-front-clause-none c =
    rw c.from_residual.ensures (no_prefix _ _ c.requires.ascii c.utf8.text (λ h. let e = c.in_err-front.ensures.variant.1 h in cc))

use Rattle.std.proofs.Common.{IsOk, refl, sym, subst}
use Rattle.eu_routes.specs.Path.{key_at, IsUncoded}
use Rattle.eu_routes.proofs.PathLemmas.{uncoded_parent}
use Rattle.eu_routes.proofs.find.ask_status.Goals as goal

pub returns-in-PUT-clause-memory : goal.returns-in-PUT-clause-memory
returns-in-PUT-clause-memory c =
    λ is. (
      rw c.in-PUT.is refl,
      λ uncoded. subst (λ q. IsOk (key_at q)) c.cut.ensures.before (c.ask_setting.ensures.memory (subst IsUncoded (sym c.cut.ensures.before) (uncoded_parent _ uncoded)) is),
    )

pub returns-in-DELETE-clause-memory : goal.returns-in-DELETE-clause-memory
returns-in-DELETE-clause-memory c =
    λ is. (
      rw c.in-DELETE.is refl,
      λ uncoded. subst (λ q. IsOk (key_at q)) c.cut.ensures.before (c.ask_unsetting.ensures.memory (subst IsUncoded (sym c.cut.ensures.before) (uncoded_parent _ uncoded)) is),
    )

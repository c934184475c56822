use Rattle.std.proofs.Common.{◌≡◌, Err, IsOk, ap, refl, sym, subst, ◌∙◌}
use Rattle.std.proofs.lemmas.Result.{err_from_is_err_and}
use Rattle.eu_base.specs.declared.faults.Fault.TheVariants.{OutOfMemory}
use Rattle.eu_routes.specs.Path.{app_at, IsUncoded}
use Rattle.eu_routes.proofs.PathLemmas.{uncoded_last}
use Rattle.eu_routes.proofs.find.ask_application.Goals as goal

pub returns-in_err-app_at-in-POST-clause-memory : goal.returns-in_err-app_at-in-POST-clause-memory
returns-in_err-app_at-in-POST-clause-memory c =
    let p = err_from_is_err_and c.from_residual.result c.from_residual.ensures.1 in
    λ e.
    let same = sym (p.1 ∙ ap Err p.2) ∙ e in
    let is : c.in_err-app_at-in-POST.field-0.0 ≡ OutOfMemory = cc in (
      rw c.in-POST.is refl,
      λ uncoded. subst (λ s. IsOk (app_at s)) c.cut.ensures.behind (c.in_err-app_at-in-POST.ensures.memory (subst IsUncoded (sym c.cut.ensures.behind) (uncoded_last _ uncoded)) (ap Err is)),
    )

pub returns-in-GET-clause-memory : goal.returns-in-GET-clause-memory
returns-in-GET-clause-memory c =
    λ is. (
      rw c.in-GET.is refl,
      λ uncoded. subst (λ s. IsOk (app_at s)) c.cut.ensures.behind (c.ask_listing.ensures.memory (subst IsUncoded (sym c.cut.ensures.behind) (uncoded_last _ uncoded)) is),
    )

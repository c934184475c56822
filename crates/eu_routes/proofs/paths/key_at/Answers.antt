use Rattle.std.proofs.Common.{◌≡◌, Ok, Err, IsOk, ap, sym, subst, ◌∙◌}
use Rattle.std.proofs.lemmas.Result.{err_from_is_err_and}
use Rattle.eu_base.specs.declared.faults.Fault.TheVariants.{OutOfMemory}
use Rattle.eu_base.specs.Gives.{Gives}
use Rattle.eu_routes.specs.Path.{text_at, IsUncoded}
use Rattle.eu_routes.proofs.PathLemmas.{or_said, no_app_text, no_id_text, key_by_texts, uncoded_last, uncoded_parent}
use Rattle.eu_routes.proofs.paths.key_at.Goals as goal

pub returns-in_err-app-clause-said : goal.returns-in_err-app-clause-said
returns-in_err-app-clause-said c =
    let p = err_from_is_err_and c.from_residual.result c.from_residual.ensures.1 in
    rw (p.1, p.2) (or_said c.in_err-app.ensures.said (λ e. no_app_text c.args.path.now _ (ap text_at (sym c.segments.ensures.app) ∙ e)))

pub returns-in_err-app-clause-memory : goal.returns-in_err-app-clause-memory
returns-in_err-app-clause-memory c =
    let p = err_from_is_err_and c.from_residual.result c.from_residual.ensures.1 in
    λ uncoded e.
    let same = sym (p.1 ∙ ap Err p.2) ∙ e in
    let is : c.in_err-app.field-0.0 ≡ OutOfMemory = cc in
    absurd (c.in_err-app.ensures.memory (subst IsUncoded (sym c.segments.ensures.app) (uncoded_last _ (uncoded_parent _ uncoded))) (ap Err is))

pub returns-in_err-id-clause-said : goal.returns-in_err-id-clause-said
returns-in_err-id-clause-said c =
    let p = err_from_is_err_and c.from_residual-in_err-id.result c.from_residual-in_err-id.ensures.1 in
    rw (p.1, p.2) (or_said c.in_err-id.ensures.said (λ e. no_id_text c.args.path.now _ (ap text_at (sym c.segments.ensures.id) ∙ e)))

pub returns-in_err-id-clause-memory : goal.returns-in_err-id-clause-memory
returns-in_err-id-clause-memory c =
    let p = err_from_is_err_and c.from_residual-in_err-id.result c.from_residual-in_err-id.ensures.1 in
    λ uncoded e.
    let same = sym (p.1 ∙ ap Err p.2) ∙ e in
    let is : c.in_err-id.field-0.0 ≡ OutOfMemory = cc in
    absurd (c.in_err-id.ensures.memory (subst IsUncoded (sym c.segments.ensures.id) (uncoded_last _ uncoded)) (ap Err is))

pub returns-clause-said : goal.returns-clause-said
returns-clause-said c =
    let first = ap text_at (sym c.segments.ensures.app) ∙ c.in_ok-app.ensures.said ∙ ap Ok (sym c.as_str.ensures.value) in
    let second = ap text_at (sym c.segments.ensures.id) ∙ c.in_ok-id.ensures.said ∙ ap Ok (sym c.as_str-2.ensures.value) in
    subst (Gives c.key_of.result) (sym (key_by_texts c.args.path.now _ _ first second)) c.key_of.ensures.said

pub returns-clause-memory : goal.returns-clause-memory
returns-clause-memory c =
    let first = ap text_at (sym c.segments.ensures.app) ∙ c.in_ok-app.ensures.said ∙ ap Ok (sym c.as_str.ensures.value) in
    let second = ap text_at (sym c.segments.ensures.id) ∙ c.in_ok-id.ensures.said ∙ ap Ok (sym c.as_str-2.ensures.value) in
    λ uncoded is. subst IsOk (sym (key_by_texts c.args.path.now _ _ first second)) (c.key_of.ensures.memory is)

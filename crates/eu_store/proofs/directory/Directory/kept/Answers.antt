use Rattle.std.proofs.Common.{Some, slice_get, sym, ap, ◌∙◌}
use Rattle.std.proofs.lemmas.Option.{slice_get-get_or}
use Rattle.eu_store.proofs.directory.Directory.kept.Goals as goal

pub returns-in_ok-try_clone-in-Some-Some : goal.returns-in_ok-try_clone-in-Some-Some
returns-in_ok-try_clone-in-Some-Some c =
    let there = c.in-Some-Some.ensures.lookup in
    let ps = c.deref.result.now in (
      c.in-Some-Some.part,
      ap (λ l. slice_get l c.args.number) (sym c.deref.ensures.value) ∙ slice_get-get_or ps c.args.number c.in-Some-Some.field-0.now there.3.0 ∙ ap (λ (o : _). Some o) (sym there.1 ∙ c.in-Some-Some.field-0-is),
      c.in_ok-try_clone-in-Some-Some.ensures,
    )

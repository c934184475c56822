use Rattle.std.proofs.Common.{◌∙◌, refl}
use Rattle.eu_base.specs.declared.faults.Fault.TheVariants as faults
use Rattle.eu_words.specs.Words.{id_at}
use Rattle.eu_words.proofs.Texts.{no_name, other_faults, some_name}
use Rattle.eu_words.proofs.words.Words.id_at.Goals as goal

pub returns-in_default-clause-said : goal.returns-in_default-clause-said
unfolding id_at
returns-in_default-clause-said c = rw (c.in_ok-word.ensures.said, no_name _ (c.in_default.ensures.none refl)) refl

pub returns-in-Ok-clause-said : goal.returns-in-Ok-clause-said
unfolding id_at
returns-in-Ok-clause-said c =
    let utf8 = c.in-Some.ensures.some in
    let read = c.in-Ok.ensures in
    rw (c.in_ok-word.ensures.said, some_name _ (λ e. let h = read.empty.1 (utf8.0 ∙ e) in cc) (λ e. let h = read.too_long.1 (rw utf8.0 e) in cc) utf8.1, read.value, utf8.0) refl

pub returns-in-Err-OutOfMemory-clause-memory : goal.returns-in-Err-OutOfMemory-clause-memory
unfolding id_at
returns-in-Err-OutOfMemory-clause-memory c =
    let utf8 = c.in-Some.ensures.some in
    let read = c.read.ensures in
    let fault = c.in-Err-OutOfMemory in
    λ _. rw (
      c.in_ok-word.ensures.said,
      some_name _ (λ e. other_faults c.read.result _ faults.Empty fault.is fault.field-0-is refl (read.empty.1 (utf8.0 ∙ e)))
          (λ e. other_faults c.read.result _ faults.TooLong fault.is fault.field-0-is refl (read.too_long.1 (rw utf8.0 e))) utf8.1,
    ) refl

use mathlib.Core.Logic.{inr}
use Rattle.std.proofs.Common.{◌∙◌}
use Rattle.eu_routes.proofs.PathLemmas.{utf8_text, other_text, uncoded_text}
use Rattle.eu_routes.proofs.paths.text_at.Goals as goal

pub returns-then-is_uncoded-clause-said : goal.returns-then-is_uncoded-clause-said
returns-then-is_uncoded-clause-said c = uncoded_text c.args.segment.now (c.is_uncoded.ensures c.if-is_uncoded.true) c.utf8.segment

pub returns-in-Ok-clause-said : goal.returns-in-Ok-clause-said
returns-in-Ok-clause-said c =
    let bytes = c.percent_decode_str.ensures.bytes in
    utf8_text c.args.segment.now _ (c.in-Ok.ensures.value ∙ bytes) (rw (← bytes) c.in-Ok.ensures.ok_only_if_utf8)

pub returns-in-Err-Utf8-clause-said : goal.returns-in-Err-Utf8-clause-said
returns-in-Err-Utf8-clause-said c =
    let bytes = c.percent_decode_str.ensures.bytes in
    inr (other_text c.args.segment.now (λ utf8. let h = c.in-Err-Utf8.ensures.utf8 (rw bytes utf8) in cc))

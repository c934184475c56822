use Rattle.std.proofs.Common.{◌≡◌, ◌<◌, length, Some, arith, ap, sym, ◌∙◌}
use Rattle.std.proofs.lemmas.Bool.Decides.{nat_tests}
use Rattle.eu_base.specs.Digits.{digits}
use Rattle.eu_routes.proofs.QueryLemmas.{u32_by}
use Rattle.eu_routes.proofs.queries.read_u32.Goals as goal

pub returns : goal.returns
returns c =
    let filled : 0 < length c.args.text.now = grind (arith, nat_tests, c.is_empty.ensures, c.if-is_empty.false) in
    let some : digits c.args.text.now ≡ Some c.in_ok-read_digits.field-0 = sym (ap digits c.as_bytes.ensures.value) ∙ sym c.read_digits.ensures ∙ c.in_ok-read_digits.was in
    c.ok.ensures.value ∙ u32_by c.args.text.now c.in_ok-read_digits.field-0 c.try_from.result filled (omega arith) some c.try_from.ensures

use Rattle.std.proofs.Common.{◌≡◌, ◌<◌, length, Some, None, arith, ap, sym, ◌∙◌}
use Rattle.std.proofs.lemmas.Bool.Decides.{nat_tests}
use Rattle.eu_base.specs.Digits.{digits}
use Rattle.eu_routes.proofs.QueryLemmas.{stamp_by, no_stamp_by}
use Rattle.eu_routes.proofs.queries.read_stamp.Goals as goal

pub returns-in_err-read_digits : goal.returns-in_err-read_digits
returns-in_err-read_digits c =
    let none : digits c.args.text.now ≡ None = sym (ap digits c.as_bytes.ensures.value) ∙ sym c.read_digits.ensures ∙ c.in_err-read_digits.was in
    c.from_residual.ensures ∙ sym (no_stamp_by c.args.text.now none)

pub returns : goal.returns
returns c =
    let filled : 0 < length c.args.text.now = grind (arith, nat_tests, c.is_empty.ensures, c.if-is_empty.false) in
    let some : digits c.args.text.now ≡ Some c.in_ok-read_digits.field-0 = sym (ap digits c.as_bytes.ensures.value) ∙ sym c.read_digits.ensures ∙ c.in_ok-read_digits.was in
    stamp_by c.args.text.now c.in_ok-read_digits.field-0 c.new.result filled some c.new.ensures

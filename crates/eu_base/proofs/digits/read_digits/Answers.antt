use Rattle.std.proofs.Common.{◌≡◌, ◌<◌, ◌-◌, true, false, get_or, arith, add-one, refl, sym, ◌∙◌}
use Rattle.std.proofs.lemmas.Int.Digits.{digits_value_more}
use Rattle.std.specs.Char.{is_ascii_digit}
use Rattle.eu_base.proofs.DigitLemmas.{digits_more, not_digits, one_more, fits_more, no_digits, digit_is}
use Rattle.eu_base.proofs.digits.read_digits.Goals as goal

pub returns-then-not-is_ascii_digit : goal.returns-then-not-is_ascii_digit
returns-then-not-is_ascii_digit c =
    let here : is_ascii_digit (get_or c.args.text.now c.loop-byte.byte-index 0) ≡ false = sym c.is_ascii_digit.ensures.value ∙ c.if-not-is_ascii_digit.true in
    sym (no_digits c.args.text.now (not_digits c.args.text.now c.loop-byte.byte-index c.loop-byte-test.true here))

pub loop-byte-preserved : goal.loop-byte-preserved
loop-byte-preserved c =
    let w = c.args.text.now in
    let i = c.loop-byte.byte-index in
    let here : is_ascii_digit (get_or w i 0) ≡ true = sym c.is_ascii_digit.ensures.value ∙ c.if-not-is_ascii_digit.false in
    let d = digit_is (get_or w i 0) here in
    let more = digits_value_more 10 w i c.loop-byte-test.true in
    record {
      digits = rw add-one (digits_more w i c.loop-byte-test.true c.loop-byte.invariant.digits here);
      value = rw (more, c.from.ensures, ← c.loop-byte.invariant.value, d.0) refl;
      small = rw (add-one, c.from.ensures) (one_more _ _ i c.loop-byte.invariant.small (omega (arith, d.1)));
    }

pub overflow_mul-value : goal.overflow_mul-value
overflow_mul-value c =
    let few : c.loop-byte.byte-index < 19 = omega (arith, c.loop-byte-test.true, c.if-text-gt19.false) in
    omega (arith, fits_more c.loop-byte.value 0 c.loop-byte.byte-index c.loop-byte.invariant.small few (omega arith))

pub overflow_add-value : goal.overflow_add-value
overflow_add-value c =
    let few : c.loop-byte.byte-index < 19 = omega (arith, c.loop-byte-test.true, c.if-text-gt19.false) in
    let here : is_ascii_digit (get_or c.args.text.now c.loop-byte.byte-index 0) ≡ true = sym c.is_ascii_digit.ensures.value ∙ c.if-not-is_ascii_digit.false in
    let fits = fits_more c.loop-byte.value (get_or c.args.text.now c.loop-byte.byte-index 0 - 48) c.loop-byte.byte-index c.loop-byte.invariant.small few (digit_is (get_or c.args.text.now c.loop-byte.byte-index 0) here).1 in
    rw c.from.ensures (omega (arith, fits))

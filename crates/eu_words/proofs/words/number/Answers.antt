use Rattle.std.proofs.Common.{◌≡◌, ◌+◌, ◌*◌, false, true, sym, ap, ◌∙◌, None, Some}
use Rattle.std.specs.Prelude.{if◌then◌else◌}
use Rattle.std.specs.Char.{digit_value, is_ascii_digit}
use Rattle.eu_words.specs.Words.{◌>>=◌, number}
use Rattle.eu_base.proofs.DigitLemmas.{digit_is}
use Rattle.eu_words.proofs.Texts.{number_push}
use Rattle.eu_words.proofs.words.number.Goals as goal

pub returns-in_err-value : goal.returns-in_err-value
returns-in_err-value c =
    let last = c.in_ok-last.last.now in
    let none = sym c.read_digits.ensures ∙ c.in_err-value.was in
    c.from_residual-in_err-value.ensures
    ∙ sym (ap number c.in_ok-last.ensures.cases.0 ∙ number_push c.in_ok-last.front.now last ∙ ap (λ o. o >>= (λ v. if is_ascii_digit last then Some (v * 10 + digit_value last) else None)) none)

pub returns-then-not-is_ascii_digit : goal.returns-then-not-is_ascii_digit
returns-then-not-is_ascii_digit c =
    let last = c.in_ok-last.last.now in
    let some = sym c.read_digits.ensures ∙ c.in_ok-value.was in
    let no : is_ascii_digit last ≡ false = sym c.is_ascii_digit.ensures.value ∙ c.if-not-is_ascii_digit.true in
    sym (ap number c.in_ok-last.ensures.cases.0 ∙ number_push c.in_ok-last.front.now last ∙ ap (λ o. o >>= (λ v. if is_ascii_digit last then Some (v * 10 + digit_value last) else None)) some
    ∙ ap (λ b. if b then Some (c.in_ok-value.value * 10 + digit_value last) else None) no)

pub returns : goal.returns
returns c =
    let last = c.in_ok-last.last.now in
    let some = sym c.read_digits.ensures ∙ c.in_ok-value.was in
    let yes : is_ascii_digit last ≡ true = sym c.is_ascii_digit.ensures.value ∙ c.if-not-is_ascii_digit.false in
    let digit = (digit_is last yes).0 in
    (λ i. Some (c.from.ensures i * 10 + (c.from-2.ensures ∙ sym digit) i))
    ∙ sym (ap number c.in_ok-last.ensures.cases.0 ∙ number_push c.in_ok-last.front.now last ∙ ap (λ o. o >>= (λ v. if is_ascii_digit last then Some (v * 10 + digit_value last) else None)) some
    ∙ ap (λ b. if b then Some (c.in_ok-value.value * 10 + digit_value last) else None) yes)

use Rattle.std.proofs.Common.{◌≡◌, ◌≢◌, [], Some, refl, ap, sym, ◌∙◌}
use Rattle.std.proofs.lemmas.Result.{err_from_is_err_and}
use Rattle.eu_words.specs.Words.{codes_of}
use Rattle.eu_words.proofs.Codes.{with_front, code_first, one_more_code, no_front, whole_front, code_fails}
use Rattle.eu_words.proofs.Left.{none_left, some_left}
use Rattle.eu_words.proofs.words.Words.codes.Goals as goal

pub words-init : goal.words-init
words-init c = rw (c.new-codes.ensures.items, no_front) refl

pub returns-in_err-code : goal.returns-in_err-code
returns-in_err-code c =
    let some : c.words.self ≢ [] = rw c.self.view_is at (some_left c.self.inside.rest (sym c.words-test.ensures)) in
    let fails = code_fails c.words.codes.items c.words.self (codes_of c.args.self.now) c.in_err-code.field-0.0 some c.words.invariant c.in_err-code.ensures.said in
    let p = err_from_is_err_and c.from_residual.result c.from_residual.ensures.1 in
    rw (p.1, p.2) fails

pub words-smaller : goal.words-smaller
words-smaller c = (code_first c.words.self c.code.new.self c.in_ok-code.field-0 c.in_ok-code.ensures.said).1

pub words-preserved : goal.words-preserved
words-preserved c =
    let first = (code_first c.words.self c.code.new.self c.in_ok-code.field-0 c.in_ok-code.ensures.said).0 in
    rw (c.in_ok-push.ensures.items, one_more_code) (rw (← first) c.words.invariant)

pub returns : goal.returns
returns c =
    let none : c.words.self ≡ [] = sym c.self.view_is ∙ none_left c.self.inside.rest (sym c.is_some.ensures ∙ c.words-test.false) in
    sym c.words.invariant ∙ ap (λ ws. with_front c.words.codes.items (codes_of ws)) none ∙ whole_front c.words.codes.items ∙ ap Some (sym c.new.ensures)

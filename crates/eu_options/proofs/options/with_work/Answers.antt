-- Each argument is added with its rule, and none is global
use Rattle.std.proofs.Common.{refl, ap₂, codes, pos, ◌≡◌, ◌∙◌, ◌||◌, false}
use Rattle.std.proofs.lemmas.Result.{IfOk-weaker}
use Rattle.clap.specs.Words.{rule_of, with_rule}
use Rattle.clap.specs.declared.builder.value_parser.ValueParser.TheVariants.{Signed}
use Rattle.eu_options.specs.Options.{option_rule}
use Rattle.eu_options.proofs.options.with_work.Goals as goal

pub returns-clause-app : goal.returns-clause-app
returns-clause-app c =
    let counts : c.range.result ≡ Signed (pos 1) (pos 16) = rw (c.value_parser.ensures, c.new.ensures.start, c.new.ensures.end) at c.range.ensures in
    let workers : rule_of c.help-workers.result ≡ option_rule (codes "workers") (Signed (pos 1) (pos 16)) (codes "2") = rw (c.help-workers.ensures, ← counts) c.option.ensures.rule in
    let expected : rule_of c.help-expected.result ≡ option_rule (codes "expected") (Signed (pos 0) (pos 4294967295)) (codes "1") = rw (c.help-expected.ensures, ← c.value_parser-2.ensures) c.option-2.ensures.rule in
    let first = c.in_ok-arg.ensures.shape c.in_ok-sessions.ensures.local ∙ ap₂ with_rule refl c.in_ok-sessions.ensures.rule in
    let second = c.in_ok-arg-2.ensures.shape c.forever_option-forever.ensures.local ∙ ap₂ with_rule first c.forever_option-forever.ensures.rule in
    let third = c.in_ok-arg-3.ensures.shape c.until_option-until.ensures.local ∙ ap₂ with_rule second c.until_option-until.ensures.rule in
    let fourth = c.in_ok-arg-4.ensures.shape (rw c.help-workers.ensures c.option.ensures.local) ∙ ap₂ with_rule third workers in
    IfOk-weaker c.arg-5.result _ _ (λ _ h. h.shape (rw c.help-expected.ensures c.option-2.ensures.local) ∙ ap₂ with_rule fourth expected) c.arg-5.ensures

pub returns-clause-local : goal.returns-clause-local
returns-clause-local c = λ none.
    let workers : c.help-workers.result.global ≡ false = rw c.help-workers.ensures c.option.ensures.local in
    let expected : c.help-expected.result.global ≡ false = rw c.help-expected.ensures c.option-2.ensures.local in
    let first = c.in_ok-arg.ensures.globals ∙ ap₂ (λ a b. a || b) none c.in_ok-sessions.ensures.local in
    let second = c.in_ok-arg-2.ensures.globals ∙ ap₂ (λ a b. a || b) first c.forever_option-forever.ensures.local in
    let third = c.in_ok-arg-3.ensures.globals ∙ ap₂ (λ a b. a || b) second c.until_option-until.ensures.local in
    let fourth = c.in_ok-arg-4.ensures.globals ∙ ap₂ (λ a b. a || b) third workers in
    IfOk-weaker c.arg-5.result _ _ (λ _ h. h.globals ∙ ap₂ (λ a b. a || b) fourth expected) c.arg-5.ensures

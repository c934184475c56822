-- Each argument is added with its rule, and none is global
use Rattle.std.proofs.Common.{refl, ap₂, codes, pos, ◌≡◌, ◌∙◌, ◌||◌, false}
use Rattle.std.proofs.lemmas.Result.{IfOk-weaker}
use Rattle.clap.specs.Words.{rule_of, with_rule}
use Rattle.clap.specs.declared.builder.value_parser.ValueParser.TheVariants.{Signed}
use Rattle.eu_options.specs.Options.{option_rule, IsSwitchParser}
use Rattle.eu_options.proofs.options.with_settings.Goals as goal

pub returns-clause-app : goal.returns-clause-app
returns-clause-app c =
    let switch = c.from-switch.result in
    let words : IsSwitchParser switch = rw (c.from-switch.ensures, c.as_slice.ensures) refl in
    let preservation : rule_of c.help-preservation.result ≡ option_rule (codes "preservation") switch (codes "on") = rw c.help-preservation.ensures c.option.ensures.rule in
    let percents : c.range.result ≡ Signed (pos 0) (pos 100) = rw (c.value_parser.ensures, c.new.ensures.start, c.new.ensures.end) at c.range.ensures in
    let percent : rule_of c.help-percent.result ≡ option_rule (codes "percent") (Signed (pos 0) (pos 100)) (codes "85") = rw (c.help-percent.ensures, ← percents) c.option-2.ensures.rule in
    let intervals : c.range-2.result ≡ Signed (pos 1) (pos 3600) = rw (c.value_parser-2.ensures, c.new-2.ensures.start, c.new-2.ensures.end) at c.range-2.ensures in
    let interval : rule_of c.help-interval.result ≡ option_rule (codes "interval") (Signed (pos 1) (pos 3600)) (codes "30") = rw (c.help-interval.ensures, ← intervals) c.option-3.ensures.rule in
    let evict_ms : rule_of c.help-evict_ms.result ≡ option_rule (codes "evict-ms") (Signed (pos 0) (pos 4294967295)) (codes "60000") = rw (c.help-evict_ms.ensures, ← c.value_parser-3.ensures) c.option-4.ensures.rule in
    let first = c.in_ok-arg.ensures.shape (rw c.help-preservation.ensures c.option.ensures.local) ∙ ap₂ with_rule refl preservation in
    let second = c.in_ok-arg-2.ensures.shape (rw c.help-percent.ensures c.option-2.ensures.local) ∙ ap₂ with_rule first percent in
    let third = c.in_ok-arg-3.ensures.shape (rw c.help-interval.ensures c.option-3.ensures.local) ∙ ap₂ with_rule second interval in
    IfOk-weaker c.arg-4.result _ _ (λ _ h. (switch, words, h.shape (rw c.help-evict_ms.ensures c.option-4.ensures.local) ∙ ap₂ with_rule third evict_ms)) c.arg-4.ensures

pub returns-clause-local : goal.returns-clause-local
returns-clause-local c = λ none.
    let preservation : c.help-preservation.result.global ≡ false = rw c.help-preservation.ensures c.option.ensures.local in
    let percent : c.help-percent.result.global ≡ false = rw c.help-percent.ensures c.option-2.ensures.local in
    let interval : c.help-interval.result.global ≡ false = rw c.help-interval.ensures c.option-3.ensures.local in
    let evict_ms : c.help-evict_ms.result.global ≡ false = rw c.help-evict_ms.ensures c.option-4.ensures.local in
    let first = c.in_ok-arg.ensures.globals ∙ ap₂ (λ a b. a || b) none preservation in
    let second = c.in_ok-arg-2.ensures.globals ∙ ap₂ (λ a b. a || b) first percent in
    let third = c.in_ok-arg-3.ensures.globals ∙ ap₂ (λ a b. a || b) second interval in
    IfOk-weaker c.arg-4.result _ _ (λ _ h. h.globals ∙ ap₂ (λ a b. a || b) third evict_ms) c.arg-4.ensures

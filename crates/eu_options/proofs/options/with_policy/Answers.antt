-- Each argument is added with its rule, and none is global
use Rattle.std.proofs.Common.{refl, ap₂, codes, pos, ◌≡◌, ◌∙◌, ◌||◌, false}
use Rattle.std.proofs.lemmas.Result.{IfOk-weaker}
use Rattle.clap.specs.Words.{rule_of, with_rule}
use Rattle.clap.specs.declared.builder.value_parser.ValueParser.TheVariants.{Signed}
use Rattle.eu_options.specs.Options.{option_rule, IsSwitchParser}
use Rattle.eu_options.proofs.options.with_policy.Goals as goal

pub returns-clause-app : goal.returns-clause-app
returns-clause-app c =
    let switch = c.from-switch.result in
    let words : IsSwitchParser switch = rw (c.from-switch.ensures, c.as_slice.ensures) refl in
    let peers : rule_of c.help-peers.result ≡ option_rule (codes "accept-peers") switch (codes "on") = rw c.help-peers.ensures c.option.ensures.rule in
    let body_range : c.range-most.result ≡ Signed (pos 1) (pos 1048576) = rw (c.value_parser.ensures, c.new.ensures.start, c.new.ensures.end) at c.range-most.ensures in
    let body : rule_of c.help-body.result ≡ option_rule (codes "max-body") (Signed (pos 1) (pos 1048576)) (codes "1048576") = rw (c.help-body.ensures, ← body_range) c.option-2.ensures.rule in
    let first = c.in_ok-arg.ensures.shape (rw c.help-peers.ensures c.option.ensures.local) ∙ ap₂ with_rule refl peers in
    let second = c.in_ok-arg-2.ensures.shape (rw c.help-body.ensures c.option-2.ensures.local) ∙ ap₂ with_rule first body in
    IfOk-weaker c.arg-3.result _ _ (λ _ h. (switch, words, h.shape c.origin_option.ensures.local ∙ ap₂ with_rule second c.origin_option.ensures.rule)) c.arg-3.ensures

pub returns-clause-local : goal.returns-clause-local
returns-clause-local c = λ none.
    let peers : c.help-peers.result.global ≡ false = rw c.help-peers.ensures c.option.ensures.local in
    let body : c.help-body.result.global ≡ false = rw c.help-body.ensures c.option-2.ensures.local in
    let first = c.in_ok-arg.ensures.globals ∙ ap₂ (λ a b. a || b) none peers in
    let second = c.in_ok-arg-2.ensures.globals ∙ ap₂ (λ a b. a || b) first body in
    IfOk-weaker c.arg-3.result _ _ (λ _ h. h.globals ∙ ap₂ (λ a b. a || b) second c.origin_option.ensures.local) c.arg-3.ensures

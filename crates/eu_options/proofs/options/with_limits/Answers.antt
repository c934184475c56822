-- Each argument is added with its rule, and none is global
use Rattle.std.proofs.Common.{refl, ap₂, codes, pos, ◌≡◌, ◌∙◌, ◌||◌, false}
use Rattle.std.proofs.lemmas.Result.{IfOk-weaker}
use Rattle.clap.specs.Words.{rule_of, with_rule}
use Rattle.clap.specs.declared.builder.value_parser.ValueParser.TheVariants.{Signed}
use Rattle.eu_options.specs.Options.{option_rule}
use Rattle.eu_options.proofs.options.with_limits.Goals as goal

pub returns-clause-app : goal.returns-clause-app
returns-clause-app c =
    let connections_range : c.range-most.result ≡ Signed (pos 1) (pos 1000000) = rw (c.value_parser.ensures, c.new.ensures.start, c.new.ensures.end) at c.range-most.ensures in
    let connections : rule_of c.help-connections.result ≡ option_rule (codes "connections") (Signed (pos 1) (pos 1000000)) (codes "10000") = rw (c.help-connections.ensures, ← connections_range) c.option.ensures.rule in
    let idle_ms_range : c.range-idle.result ≡ Signed (pos 1) (pos 4294967295) = rw (c.value_parser-2.ensures, c.new-2.ensures.start, c.new-2.ensures.end) at c.range-idle.ensures in
    let idle_ms : rule_of c.help-idle_ms.result ≡ option_rule (codes "idle-ms") (Signed (pos 1) (pos 4294967295)) (codes "90000") = rw (c.help-idle_ms.ensures, ← idle_ms_range) c.option-2.ensures.rule in
    let request_ms_range : c.range-request.result ≡ Signed (pos 1) (pos 4294967295) = rw (c.value_parser-3.ensures, c.new-3.ensures.start, c.new-3.ensures.end) at c.range-request.ensures in
    let request_ms : rule_of c.help-request_ms.result ≡ option_rule (codes "request-ms") (Signed (pos 1) (pos 4294967295)) (codes "10000") = rw (c.help-request_ms.ensures, ← request_ms_range) c.option-3.ensures.rule in
    let first = c.in_ok-arg.ensures.shape (rw c.help-connections.ensures c.option.ensures.local) ∙ ap₂ with_rule refl connections in
    let second = c.in_ok-arg-2.ensures.shape (rw c.help-idle_ms.ensures c.option-2.ensures.local) ∙ ap₂ with_rule first idle_ms in
    let third = c.in_ok-arg-3.ensures.shape (rw c.help-request_ms.ensures c.option-3.ensures.local) ∙ ap₂ with_rule second request_ms in
    let warm_up_ms : rule_of c.help-warm_up_ms.result ≡ option_rule (codes "warm-up-ms") (Signed (pos 0) (pos 4294967295)) (codes "0") = rw (c.help-warm_up_ms.ensures, ← c.value_parser-4.ensures) c.option-4.ensures.rule in
    IfOk-weaker c.arg-4.result _ _ (λ _ h. h.shape (rw c.help-warm_up_ms.ensures c.option-4.ensures.local) ∙ ap₂ with_rule third warm_up_ms) c.arg-4.ensures

pub returns-clause-local : goal.returns-clause-local
returns-clause-local c = λ none.
    let connections : c.help-connections.result.global ≡ false = rw c.help-connections.ensures c.option.ensures.local in
    let idle_ms : c.help-idle_ms.result.global ≡ false = rw c.help-idle_ms.ensures c.option-2.ensures.local in
    let request_ms : c.help-request_ms.result.global ≡ false = rw c.help-request_ms.ensures c.option-3.ensures.local in
    let first = c.in_ok-arg.ensures.globals ∙ ap₂ (λ a b. a || b) none connections in
    let second = c.in_ok-arg-2.ensures.globals ∙ ap₂ (λ a b. a || b) first idle_ms in
    let warm_up_ms : c.help-warm_up_ms.result.global ≡ false = rw c.help-warm_up_ms.ensures c.option-4.ensures.local in
    let third = c.in_ok-arg-3.ensures.globals ∙ ap₂ (λ a b. a || b) second request_ms in
    IfOk-weaker c.arg-4.result _ _ (λ _ h. h.globals ∙ ap₂ (λ a b. a || b) third warm_up_ms) c.arg-4.ensures

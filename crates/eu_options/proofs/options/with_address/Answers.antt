-- Each argument is added with its rule, and none is global
use Rattle.std.proofs.Common.{refl, ap₂, codes, pos, ◌≡◌, ◌∙◌, ◌||◌, false}
use Rattle.std.proofs.lemmas.Result.{IfOk-weaker}
use Rattle.clap.specs.Words.{rule_of, with_rule}
use Rattle.clap.specs.declared.builder.value_parser.ValueParser.TheVariants.{Signed}
use Rattle.eu_options.specs.Options.{needed_rule}
use Rattle.eu_options.proofs.options.with_address.Goals as goal

pub returns-clause-app : goal.returns-clause-app
returns-clause-app c =
    let port : rule_of c.help-port.result ≡ needed_rule (codes "port") (Signed (pos 0) (pos 65535)) = rw (c.help-port.ensures, ← c.value_parser.ensures) c.needed.ensures.rule in
    let first = c.in_ok-arg.ensures.shape (rw c.help-port.ensures c.needed.ensures.local) ∙ ap₂ with_rule refl port in
    let second = c.in_ok-arg-2.ensures.shape c.address_option.ensures.local ∙ ap₂ with_rule first c.address_option.ensures.rule in
    let third = c.in_ok-arg-3.ensures.shape c.admin_port_option.ensures.local ∙ ap₂ with_rule second c.admin_port_option.ensures.rule in
    IfOk-weaker c.arg-4.result _ _ (λ _ h. h.shape c.address_option-2.ensures.local ∙ ap₂ with_rule third c.address_option-2.ensures.rule) c.arg-4.ensures

pub returns-clause-local : goal.returns-clause-local
returns-clause-local c = λ none.
    let port : c.help-port.result.global ≡ false = rw c.help-port.ensures c.needed.ensures.local in
    let first = c.in_ok-arg.ensures.globals ∙ ap₂ (λ a b. a || b) none port in
    let second = c.in_ok-arg-2.ensures.globals ∙ ap₂ (λ a b. a || b) first c.address_option.ensures.local in
    let third = c.in_ok-arg-3.ensures.globals ∙ ap₂ (λ a b. a || b) second c.admin_port_option.ensures.local in
    IfOk-weaker c.arg-4.result _ _ (λ _ h. h.globals ∙ ap₂ (λ a b. a || b) third c.address_option-2.ensures.local) c.arg-4.ensures

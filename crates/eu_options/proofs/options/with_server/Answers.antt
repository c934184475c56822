-- One group of options after the other
use Rattle.std.proofs.Common.{rules, ap, false, ◌≡◌, ◌∙◌}
use Rattle.std.proofs.lemmas.Result.{IfOk-weaker}
use Rattle.clap.specs.Words.{App, app_of, with_rule}
use Rattle.clap.specs.declared.builder.command.Command.TheViews.{out-Command}
use Rattle.eu_options.specs.Options.{drawing_rule, with_address, with_limits, with_policy, with_quiet, with_work}
use Rattle.eu_options.proofs.options.with_server.Goals as goal

pub returns-clause-app : goal.returns-clause-app
returns-clause-app c =
    let settings = c.in_ok-settings.ensures.app in
    let drawing : app_of c.in_ok-drawing.drawing ≡ with_rule (app_of c.in_ok-settings.settings) drawing_rule = search rules in
    let drawn = drawing ∙ ap (λ (a : App). with_rule a drawing_rule) settings.2 in
    let address = c.in_ok-address.ensures.app ∙ ap with_address drawn in
    let limits = c.in_ok-limits.ensures.app ∙ ap with_limits (c.in_ok-work.ensures.app ∙ ap with_work address) in
    let policy = c.in_ok-policy.ensures.app in
    let taken = policy.2 ∙ ap (λ (a : App). with_policy a policy.0) limits in
    IfOk-weaker c.with_quiet.result _ _ (λ _ h. (settings.0, policy.0, settings.1, policy.1, h ∙ ap with_quiet taken)) c.with_quiet.ensures.app

pub returns-clause-local : goal.returns-clause-local
returns-clause-local c = λ none.
    let settings = c.in_ok-settings.ensures.local none in
    let drawing : (out-Command c.in_ok-drawing.drawing).has_globals ≡ false = search (rules, settings) in
    c.with_quiet.ensures.local (c.in_ok-policy.ensures.local (c.in_ok-limits.ensures.local (c.in_ok-work.ensures.local (c.in_ok-address.ensures.local drawing))))

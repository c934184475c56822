use Rattle.std.proofs.Common.{rules, ap, codes, ◌≡◌, ◌∙◌}
use Rattle.std.proofs.lemmas.Result.{IfOk-weaker}
use Rattle.clap.specs.Words.{App, app_of, new_app}
use Rattle.eu_options.specs.Options.{with_journal, with_server_options}
use Rattle.eu_options.proofs.options.serve.Goals as goal

pub returns-clause-app : goal.returns-clause-app
returns-clause-app c =
    let server = c.in_ok-with_server.ensures.app in
    let begun : app_of c.about-serve.result ≡ new_app (codes "serve") = search rules in
    let options = server.4 ∙ ap (λ (a : App). with_server_options a server.0 server.1) begun in
    IfOk-weaker c.with_journal.result _ _ (λ _ h. (server.0, server.1, server.2, server.3, h ∙ ap with_journal options)) c.with_journal.ensures.app

-- Each of the commands is added, and none has a global argument
use Rattle.std.proofs.Common.{ap, ap₂, true, ◌≡◌, ◌∙◌}
use Rattle.std.proofs.lemmas.Result.{IfOk-weaker}
use Rattle.clap.specs.Words.{App, app_of, with_subcommand}
use Rattle.clap.specs.Simple.{app_of_fields}
use Rattle.eu_options.proofs.options.command.Goals as goal

-- an application with a version more, and one that needs a subcommand
abbrev versioned : App → App
versioned a = record a { top = record a.top { has_version = true } }

abbrev needing : App → App
needing a = record a { top = record a.top { subcommand_required = true } }

pub returns : goal.returns
returns c =
    let one = c.in_ok-script.ensures.app in
    let other = c.in_ok-audit.ensures.app in
    let third = c.in_ok-serve.ensures.app in
    let about : app_of c.about.result ≡ app_of c.new.result = ap app_of_fields c.about.ensures in
    let version : app_of c.version.result ≡ versioned (app_of c.about.result) = ap app_of_fields c.version.ensures in
    let needs : app_of c.subcommand_required.result ≡ needing (app_of c.version.result) = ap app_of_fields c.subcommand_required.ensures in
    let top = needs ∙ ap needing (version ∙ ap versioned (about ∙ c.new.ensures.app)) in
    let first = c.in_ok-subcommand.ensures.shape c.in_ok-script.ensures.local ∙ ap₂ with_subcommand top (ap (λ (a : App). a.top) one.2) in
    let second = c.in_ok-subcommand-2.ensures.shape c.in_ok-audit.ensures.local ∙ ap₂ with_subcommand first (ap (λ (a : App). a.top) other.2) in
    IfOk-weaker c.subcommand-3.result _ _ (λ _ h. (one.0, other.0, third.0, third.1, one.1, other.1, third.2, third.3, h.shape c.in_ok-serve.ensures.local ∙ ap₂ with_subcommand second (ap (λ (a : App). a.top) third.4))) c.subcommand-3.ensures

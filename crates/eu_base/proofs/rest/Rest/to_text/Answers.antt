use Rattle.std.proofs.Common.{rules, ◌≡◌, ap, ◌∙◌}
use Rattle.serde_json.specs.Data.{object}
use Rattle.serde_json.specs.View.{members_view}
use Rattle.eu_text.specs.Fit.{is_fit}
use Rattle.eu_base.proofs.rest.Rest.to_text.Goals as goal

pub new-requires : goal.new-requires
new-requires c =
    let same : object (members_view c.as_slice.result.now) ≡ c.args.self.now = search rules in
    ap is_fit same ∙ c.to_members.ensures.fit

use Rattle.std.proofs.Common.{ap, sym, ◌∙◌}
use Rattle.std.specs.Option.{option_map}
use Rattle.serde_json.specs.Data.{object}
use Rattle.serde_json.specs.View.{view, members_view}
use Rattle.eu_text.specs.Fit.{is_fit}
use Rattle.eu_json.specs.Reading.{own_names}
use Rattle.eu_json.proofs.MemberLemmas.{fit_of_members}
use Rattle.eu_json.proofs.read.rest_of.Goals as goal

-- src/read.rt:128:5
pub of_entries-requires : goal.of_entries-requires
of_entries-requires c =
    let found = ap (λ o. option_map (λ m. members_view m.entries) o) (sym c.unwrap-members.ensures) ∙ c.members_of.ensures in
    ap (λ ms. is_fit (object ms)) c.in_ok-others.ensures ∙ fit_of_members own_names (view c.args.instance) (members_view c.unwrap-members.result.entries) found c.requires.fit

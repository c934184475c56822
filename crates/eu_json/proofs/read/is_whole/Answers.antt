use Rattle.std.proofs.Common.{◌∙◌}
use Rattle.serde_json.specs.View.{view}
use Rattle.eu_json.proofs.PartLemmas.{fits_just_if_whole}
use Rattle.eu_json.proofs.read.is_whole.Goals as goal

pub returns-clause-whole : goal.returns-clause-whole
returns-clause-whole c = c.is_fit.ensures ∙ fits_just_if_whole (view c.args.value.now) c.requires

use Rattle.eu_base.proofs.StatusLemmas.{same_letters}
use Rattle.eu_base.proofs.statuses.is_name.Goals as goal

pub returns : goal.returns
returns c = same_letters c.args.text.now c.args.name.now _ c.requires c.eq_ignore_ascii_case.ensures.test

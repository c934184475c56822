use Rattle.eu_json.proofs.CaseLemmas.{alike_by_lower}
use Rattle.eu_json.proofs.statuses.alike.Goals as goal

pub returns : goal.returns
returns c = alike_by_lower c.args.left.now c.args.right.now c.eq_ignore_ascii_case.result c.eq_ignore_ascii_case.ensures.test.0 c.eq_ignore_ascii_case.ensures.test.1

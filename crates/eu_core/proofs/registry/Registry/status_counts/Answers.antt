use Rattle.eu_core.proofs.LookLemmas.{counts_by_status}
use Rattle.eu_core.proofs.registry.Registry.status_counts.Goals as goal

pub returns : goal.returns
returns c = counts_by_status c.self.inside c.args.self.now c.self.view_is c.status_counts.result c.status_counts.ensures

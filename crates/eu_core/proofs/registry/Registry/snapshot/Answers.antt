use Rattle.std.proofs.Common.{None}
use Rattle.eu_core.proofs.LookLemmas.{lists}
use Rattle.eu_core.proofs.registry.Registry.snapshot.Goals as goal

pub returns-clause-listing : goal.returns-clause-listing
returns-clause-listing c = lists None c.self.inside c.args.self.now c.self.view_is (λ s. s) c.snapshot.result c.snapshot.ensures.listing

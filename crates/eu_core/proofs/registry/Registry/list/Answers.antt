use Rattle.std.specs.Option.{option_copied}
use Rattle.eu_core.proofs.LookLemmas.{lists}
use Rattle.eu_core.proofs.registry.Registry.list.Goals as goal

pub returns : goal.returns
returns c = lists (option_copied c.args.app) c.self.inside c.args.self.now c.self.view_is (λ v. v.items) c.listed.result c.listed.ensures

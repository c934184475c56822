use Rattle.std.specs.Option.{option_copied}
use Rattle.eu_core.proofs.LookLemmas.{lists_briefly}
use Rattle.eu_core.proofs.registry.Registry.is_brief.Goals as goal

pub returns : goal.returns
returns c is = lists_briefly c.args.few c.args.short (option_copied c.args.app) c.self.inside c.args.self.now c.self.view_is (c.is_brief.ensures is)

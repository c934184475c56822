use Rattle.std.proofs.Common.{◌∙◌}
use Rattle.eu_workers.specs.All.{HasRun}
use Rattle.eu_workers.proofs.AllLemmas.{turned}
use Rattle.eu_workers.proofs.all.run_each.Goals as goal

pub returns : goal.returns
returns g c = turned (HasRun g.H.Chooser.asks) _ _ _ _ c.reverse.ensures.len (c.before.run_backwards.auto.workers ∙ c.reverse.ensures.len) c.reverse.ensures.by_index c.reverse-2.ensures.by_index c.run_backwards.ensures

use Rattle.eu_workers.proofs.timers.run_threshold.Goals as goal

pub returns-clause-asks : goal.returns-clause-asks
returns-clause-asks g c = c.run.ensures.asks.asks

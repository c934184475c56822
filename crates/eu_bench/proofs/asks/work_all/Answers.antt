use denote.Param.Send.{sendable}
use Rattle.eu_shared.proofs.Crossing.{Pass-send}
use Rattle.eu_bench.proofs.Crossing.{Load-sync}
use Rattle.eu_bench.proofs.asks.work_all.Goals as goal

pub for_each_mut-requires-send-T : goal.for_each_mut-requires-send-T
for_each_mut-requires-send-T g c κs within = search (Pass-send, sendable)

pub for_each_mut-requires-sync-F : goal.for_each_mut-requires-sync-F
for_each_mut-requires-sync-F g c κs within = search (Load-sync, sendable) depth 12

use denote.Param.Send.{sendable}
use Rattle.eu_workers.proofs.Crossing.{Site-sync, Worker-send}
use Rattle.eu_workers.proofs.all.run_backwards.Goals as goal

pub for_each_mut-requires-send-T : goal.for_each_mut-requires-send-T
for_each_mut-requires-send-T g c κs within = search (Worker-send, sendable)

pub for_each_mut-requires-sync-F : goal.for_each_mut-requires-sync-F
for_each_mut-requires-sync-F g c κs within = search (Site-sync, sendable) depth 12

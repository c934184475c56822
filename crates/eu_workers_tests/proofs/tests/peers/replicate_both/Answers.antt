use denote.Param.Send.{sendable}
use Rattle.std.proofs.Crossing as heap
use Rattle.eu_shared.proofs.Crossing.{Shared-sync}
use Rattle.eu_workers_tests.proofs.tests.peers.replicate_both.Goals as goal

pub join-requires-send-F : goal.join-requires-send-F
join-requires-send-F g c κs within = search (Shared-sync, sendable, heap.crosses) depth 40 fits 20000

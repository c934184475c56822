-- Which of this crate's values may go to another thread, for `search`.
use denote.Param.Send.{IsSend, sendable}
use Rattle.std.proofs.Crossing as heap
use Rattle.std.proofs.MapsCrossing as maps
use Rattle.eu_base.proofs.Crossing.{SharedInstance-send, SharedInstance-sync}
use Rattle.eu_store.specs.contracts.directory.Directory as directory
use Rattle.eu_store.specs.contracts.leases.Leases as leases

Directory-send : IsSend directory.the_field.row
Directory-send = search (SharedInstance-send, SharedInstance-sync, sendable, heap.crosses, maps.crosses) depth 40 fits 20000

pub Leases-send : IsSend leases.the_field.row
Leases-send = search (Directory-send, SharedInstance-send, SharedInstance-sync, sendable, heap.crosses, maps.crosses) depth 40 fits 20000

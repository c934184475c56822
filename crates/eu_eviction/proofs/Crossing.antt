-- Which of this crate's values may go to another thread, for `search`.
use denote.Param.Send.{IsSend, sendable}
use Rattle.std.proofs.Crossing as heap
use Rattle.std.proofs.MapsCrossing as maps
use Rattle.eu_eviction.specs.contracts.overrides.Overrides as overrides

pub Overrides-send : IsSend overrides.the_field.row
Overrides-send = search (sendable, heap.crosses, maps.crosses) depth 40 fits 20000

-- Which of this crate's values may go to another thread, for `search`.
use denote.Param.Send.{IsSend, sendable}
use Rattle.std.proofs.Crossing as heap
use Rattle.eu_core.specs.contracts.registry.Registry as registry
use Rattle.eu_core.specs.contracts.undo.Undo as undo
use Rattle.eu_lease.specs.contracts.rate.Rate as rate
use Rattle.eu_lease.specs.contracts.threshold.Threshold as threshold
use Rattle.eu_base.proofs.Crossing.{SharedInstance-send}
use Rattle.eu_eviction.proofs.Crossing.{Overrides-send}
use Rattle.eu_store.proofs.Crossing.{Leases-send}

Rate-send : IsSend rate.the_field.row
Rate-send = search (sendable, heap.crosses) depth 40 fits 20000

Threshold-send : IsSend threshold.the_field.row
Threshold-send = search (sendable, heap.crosses) depth 40 fits 20000

pub Registry-send : IsSend registry.the_field.row
Registry-send = search (Leases-send, Overrides-send, Rate-send, Threshold-send, sendable, heap.crosses) depth 40 fits 20000

-- as an element of a list
pub Undo-send : IsSend undo.the_row
Undo-send = search (SharedInstance-send, sendable, heap.crosses) depth 60 fits 60000

-- Which of this crate's values may go to another thread, for `search`.
use denote.Param.Send.{IsSend, sendable}
use Rattle.std.proofs.Crossing as heap
use Rattle.std.proofs.MapsCrossing as maps
use Rattle.eu_base.proofs.Crossing.{SharedInstance-send, Task-send, TaskName-send}
use Rattle.eu_outbox.specs.contracts.outbox.Outbox as outbox

-- as an element of a list
pub Outbox-send : IsSend outbox.the_row
Outbox-send = search (Task-send, TaskName-send, SharedInstance-send, sendable, heap.crosses, maps.crosses) depth 40 fits 20000

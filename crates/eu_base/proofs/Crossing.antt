-- Which of this crate's values may go to another thread, for `search`.
use denote.Param.Send.{IsSend, IsSync, sendable}
use Rattle.std.proofs.Crossing as heap
use Rattle.std.proofs.MapsCrossing as maps
use Rattle.serde_json.proofs.value.Value.TheLaws.TheKnot as value
use Rattle.eu_base.specs.contracts.instances.Instance as instance
use Rattle.eu_base.specs.contracts.rest.Members as members
use Rattle.eu_base.specs.contracts.rest.Rest as rest
use Rattle.eu_base.specs.contracts.shared.SharedInstance as shared
use Rattle.eu_base.specs.contracts.tasks.Task as task
use Rattle.eu_base.specs.contracts.tasks.TaskName as task_name

Members-send : IsSend members.the_field.row
Members-send = search (sendable, heap.crosses, maps.crosses, value.send-Value, value.sync-Value) depth 40 fits 20000

Rest-send : IsSend rest.the_field.row
Rest-send = search (Members-send, sendable, heap.crosses, maps.crosses) depth 40 fits 20000

Instance-send : IsSend instance.the_field.row
Instance-send = search (Rest-send, sendable, heap.crosses, maps.crosses) depth 40 fits 20000

Members-sync : IsSync members.the_field.row
Members-sync = search (sendable, heap.crosses, maps.crosses, value.send-Value, value.sync-Value) depth 40 fits 20000

Rest-sync : IsSync rest.the_field.row
Rest-sync = search (Members-sync, sendable, heap.crosses, maps.crosses) depth 40 fits 20000

Instance-sync : IsSync instance.the_field.row
Instance-sync = search (Rest-sync, sendable, heap.crosses, maps.crosses) depth 40 fits 20000

pub SharedInstance-send : IsSend shared.the_field.row
SharedInstance-send = search (Instance-send, Instance-sync, sendable, heap.crosses, maps.crosses) depth 40 fits 20000

pub SharedInstance-sync : IsSync shared.the_field.row
SharedInstance-sync = search (Instance-send, Instance-sync, sendable, heap.crosses, maps.crosses) depth 40 fits 20000

-- as a key of a map
pub TaskName-send : IsSend task_name.the_row
TaskName-send = search (sendable, heap.crosses, maps.crosses) depth 40 fits 20000

-- as an element of a list
pub Task-send : IsSend task.the_row
Task-send = search (SharedInstance-send, sendable, heap.crosses, maps.crosses) depth 40 fits 20000

-- Which of this crate's values may go to another thread, for `search`.
use denote.Param.Send.{IsSend, sendable}
use Rattle.std.proofs.Crossing as heap
use Rattle.std.proofs.MapsCrossing as maps
use Rattle.eu_base.proofs.Crossing.{SharedInstance-send, Task-send}
use Rattle.eu_model.specs.contracts.commands.Command as command
use Rattle.eu_model.specs.contracts.commands.Entry as entry
use Rattle.eu_model.specs.contracts.commands.Reply as reply

pub Command-send : IsSend command.the_field.row
Command-send = search (SharedInstance-send, sendable, heap.crosses, maps.crosses) depth 60 fits 60000

pub Reply-send : IsSend reply.the_field.row
Reply-send = search (SharedInstance-send, Task-send, sendable, heap.crosses, maps.crosses) depth 60 fits 60000

-- as an element of a journal
pub Entry-send : IsSend entry.the_row
Entry-send = search (Command-send, Reply-send, sendable) depth 40 fits 20000

-- Which of this crate's values may go to another thread, for `search`.
use denote.Param.Send.{IsSend, sendable}
use Rattle.std.proofs.Crossing as heap
use Rattle.eu_book.specs.contracts.book.Book as book
use Rattle.eu_book.specs.contracts.journal.Journal as journal
use Rattle.eu_book.specs.contracts.journal.Logged as logged
use Rattle.eu_book.specs.contracts.peers.Peers as peers
use Rattle.eu_core.proofs.Crossing.{Registry-send, Undo-send}
use Rattle.eu_model.proofs.Crossing.{Command-send, Entry-send, Reply-send}
use Rattle.eu_base.proofs.Crossing.{Task-send}
use Rattle.eu_outbox.proofs.Crossing.{Outbox-send}

-- as an element of a log
pub Logged-send : IsSend logged.the_row
Logged-send = search (Command-send, Reply-send, sendable) depth 40 fits 20000

pub Journal-send : IsSend journal.the_field.row
Journal-send = search (Entry-send, Task-send, Undo-send, sendable, heap.crosses) depth 40 fits 20000

Peers-send : IsSend peers.the_field.row
Peers-send = search (Outbox-send, sendable, heap.crosses) depth 40 fits 20000

pub Book-send : IsSend book.the_field.row
Book-send = search (Journal-send, Peers-send, Registry-send, sendable, heap.crosses) depth 40 fits 20000

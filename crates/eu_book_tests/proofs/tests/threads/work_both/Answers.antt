use denote.Param.Send.{sendable}
use Rattle.std.proofs.Crossing as heap
use Rattle.eu_shared.proofs.Crossing.{Pass-send, Shared-sync}
use Rattle.eu_book_tests.proofs.tests.threads.work_both.Goals as goal

pub join-requires-send-F : goal.join-requires-send-F
join-requires-send-F g c κs within = search (Pass-send, Shared-sync, sendable, heap.crosses) depth 40 fits 20000

pub join-requires-send-A : goal.join-requires-send-A
join-requires-send-A g c κs within = search (Pass-send, sendable) depth 40 fits 20000

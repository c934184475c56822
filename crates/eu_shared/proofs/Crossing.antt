-- A pass may go to another thread, and threads may share the book, for `search`.
use denote.Param.Send.{IsSend, IsSync, sendable}
use denote.RattleType.{RattleType}
use Rattle.std.proofs.Crossing as heap
use Rattle.eu_book.proofs.Crossing.{Book-send, Logged-send}
use Rattle.eu_shared.proofs.shares.Shares.TheSendSync as shares
use Rattle.eu_shared.proofs.shares.Totals.TheSendSync as totals
use Rattle.eu_shared.specs.contracts.held.Held as held
use Rattle.eu_shared.specs.contracts.pass.Pass as pass
use Rattle.eu_shared.specs.contracts.shared.Shared as shared
use Rattle.eu_shared.specs.declared.shares.Label.{Ghosts}

module _ (K : RattleType) (g : Ghosts K.Denot) (s : IsSend K) where
  pub Pass-send : IsSend (pass.the_field K g).row
  Pass-send = search (shares.the_send, Logged-send, sendable, heap.crosses) depth 40 fits 20000

  Held-send : IsSend (held.the_row K g)
  Held-send = search (Book-send, shares.the_send, totals.the_send, sendable, heap.crosses) depth 40 fits 20000

  pub Shared-sync : IsSync (shared.the_row K g)
  Shared-sync = search (Held-send, sendable, heap.crosses) depth 40 fits 20000

use Rattle.eu_peer.proofs.BusyLemmas.{busy_turns}
use Rattle.eu_peer.proofs.law.busy_turns_wait.Goals as goal

pub returns : goal.returns
returns g c = busy_turns g.D.Desk.asked g.P.Peer.submits g.C.Clock.tells

use Rattle.eu_workers.proofs.TurnLemmas.{asked_by_turn, trims}
use Rattle.eu_workers.proofs.replicator.turn.Goals as goal

pub returns : goal.returns
returns g c =
    let sent = c.replicate_turn-sent in (
      _,
      asked_by_turn (λ s. s.pass) g.P.Peer.submits g.C.Clock.tells c.args.number
          (record { desk = c.args.seat.now; peer = c.args.peer.now; clock = c.args.clock.now })
          (record { desk = sent.new.desk; peer = sent.new.peer; clock = sent.new.clock }) sent.result sent.ensures,
      trims _ _ c.trim.ensures,
    )

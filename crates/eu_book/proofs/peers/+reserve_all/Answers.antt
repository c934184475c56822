use Rattle.std.proofs.Common.{subst, sym}
use Rattle.std.specs.Prelude.{All}
use Rattle.std.proofs.lemmas.List.Elements.{All-push}
use Rattle.eu_book.specs.Peers.{IsReady}
use Rattle.eu_book.proofs.PeerLemmas.{on_ok}
use Rattle.eu_book.proofs.peers.+reserve_all.Goals as goal

pub returns-clause-ready : goal.returns-clause-ready
returns-clause-ready t c =
    on_ok c.reserve_all-others.result
    (λ others _. subst (All IsReady) (sym c.push_reserved.ensures.items) (All-push IsReady c.reserve_all-others.new.outboxes.items c.reserve-mine.new.self others c.in_ok-mine.ensures.ready))
    c.reserve_all-others.ensures.ready c.reserve_all-others.ensures.ready

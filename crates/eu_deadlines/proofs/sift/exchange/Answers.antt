use Rattle.eu_deadlines.proofs.sift.exchange.Goals as goal
use Rattle.eu_deadlines.proofs.LinkLemmas.{exchanged, written_links, written_seen}

pub returns-clause-linked : goal.returns-clause-linked
returns-clause-linked c =
    let r = c.requires in
    written_links _ _ _ _ _ r.linked r.a r.b r.apart (exchanged _ _ _ _ c.swap-2.ensures.len c.swap-2.ensures.by_index)

pub returns-clause-same : goal.returns-clause-same
returns-clause-same c =
    let r = c.requires in
    written_seen _ _ _ _ _ r.linked r.a r.b r.apart (exchanged _ _ _ _ c.swap-2.ensures.len c.swap-2.ensures.by_index) _ _
    (exchanged _ _ _ _ c.swap.ensures.len c.swap.ensures.by_index)

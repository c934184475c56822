use Rattle.std.proofs.Common.{◌∙◌, sym, subst}
use Rattle.eu_model.specs.Server.{PlainServer}
use Rattle.eu_book.specs.Account.{Account, IsKept}
use Rattle.eu_book.specs.Undone.{undone_all}
use Rattle.eu_book.proofs.BookLemmas.{begins_paired, opened_kept}
use Rattle.eu_book.proofs.book.Book.open.Goals as goal

pub returns : goal.returns
returns c =
    let at = c.in_ok-prepare.ensures in
    let registry = c.open-2.ensures in
    let peers = c.in_ok-peers.ensures in
    let queues = at.waiting ∙ peers in
    let totals = c.nothing.ensures in
    λ i.
    let base : PlainServer = record { registry = undone_all (at.entries i) (at.undos i) (registry i); queues = queues i } in
    let state : PlainServer = record { registry = registry i; queues = peers i } in
    let a : Account = record { base = base; first = at.first i; entries = at.entries i; state = state; totals = totals i } in
    a

pub invariant_of-result : goal.invariant_of-result
invariant_of-result c =
    (begins_paired c.prepare.new.room _ _ c.in_ok-prepare.ensures, subst IsKept (sym (returns c)) (opened_kept c.args.config c.args.expected c.args.peers c.ranges.expected.fits c.requires))

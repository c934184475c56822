use Rattle.std.proofs.Common.{◌∙◌, ap, subst, sym}
use Rattle.eu_book.specs.Account.{IsKept, cleared}
use Rattle.eu_book.specs.Checkpoint.{BeginsAt}
use Rattle.eu_book.specs.Peers.{queues_of}
use Rattle.eu_book.proofs.BookLemmas.{begins, begins_paired, cleared_kept}
use Rattle.eu_book.proofs.book.Book.checkpoint_in.Goals as goal

pub invariant_of-self : goal.invariant_of-self
invariant_of-self c =
    let b = c.self.inside in
    let at = subst (BeginsAt b.totals.steps (queues_of b.peers)) (sym (c.swap.ensures.x_after ∙ c.as_mut-2.ensures.value)) c.in_ok-prepare.ensures in
    (begins_paired c.swap.new.x _ _ at, subst IsKept (sym (begins b.journal b.totals b.registry b.peers c.swap.new.x at)) (cleared_kept _ c.self.invariant.1))

pub returns-clause-ok : goal.returns-clause-ok
returns-clause-ok c =
    let b = c.self.inside in
    let at = subst (BeginsAt b.totals.steps (queues_of b.peers)) (sym (c.swap.ensures.x_after ∙ c.as_mut-2.ensures.value)) c.in_ok-prepare.ensures in
    begins b.journal b.totals b.registry b.peers c.swap.new.x at ∙ ap cleared c.self.view_is

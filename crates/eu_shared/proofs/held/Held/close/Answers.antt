use Rattle.std.proofs.Common.{sym, ap, ◌∙◌}
use Rattle.eu_book.specs.Account.{Account}
use Rattle.eu_book.specs.Peers.{state_of}
use Rattle.eu_shared.specs.Passes.{Holding}
use Rattle.eu_shared.proofs.SumLemmas.{tally_same}
use Rattle.eu_shared.proofs.held.Held.close.Goals as goal

pub returns-clause-closed : goal.returns-clause-closed
returns-clause-closed g c =
    let held = c.sums-sums.ensures.same in
    let whole = c.plain.ensures.whole ∙ ap (λ (h : Holding). h.book) held in
    let same = tally_same c.sums-sums.result c.totals-totals.result c.if-ne.ensures in
    record {
      whole = whole;
      base = c.plain.ensures.base ∙ c.in-Ok-base.ensures.1 ∙ ap (λ (a : Account). state_of a.base) (c.book-2.ensures.book ∙ ap (λ (h : Holding). h.book) held);
      end = c.plain.ensures.end ∙ c.in-Ok-state.ensures ∙ ap (λ (a : Account). state_of a.state) (c.book-3.ensures.book ∙ ap (λ (h : Holding). h.book) held);
      sums = ap (λ (a : Account). a.totals) (whole ∙ ap (λ (h : Holding). h.book) (sym held) ∙ sym c.book.ensures.book) ∙ sym c.totals-totals.ensures ∙ sym same ∙ c.sums-sums.ensures.sums;
      logs = rw (c.plain.ensures.logs, ← c.sums-sums.ensures.passes.0) c.sorted_logs.ensures.logs;
      ascending = rw c.plain.ensures.logs c.sorted_logs.ensures.ascending;
    }

pub hand_back-requires-in_default-state-clause-reason : goal.hand_back-requires-in_default-state-clause-reason
hand_back-requires-in_default-state-clause-reason g c =
    tally_same c.sums-sums.result c.totals-totals.result c.if-ne.ensures ∙ c.totals-totals.ensures ∙ ap (λ (a : Account). a.totals) c.book.ensures.book

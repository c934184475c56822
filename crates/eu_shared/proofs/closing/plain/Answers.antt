use Rattle.std.proofs.Common.{sym, ap, ◌∙◌, subst}
use Rattle.eu_book.specs.Account.{Account, IsLawful}
use Rattle.eu_settle.specs.declared.closed.Closed.{Closed}
use Rattle.eu_shared.proofs.ClosingLemmas.{closed_is}
use Rattle.eu_shared.proofs.closing.plain.Goals as goal

pub returns-clause-whole : goal.returns-clause-whole
returns-clause-whole g c =
    let is = c.book.ensures.book in
    let closed : Closed = record {
      base = c.args.base;
      first = c.first-first.result;
      entries = c.into_entries.result;
      end = c.args.end;
      totals = c.totals-totals.result;
      logs = c.args.logs;
    } in
    closed_is closed c.args.held.book c.book.ensures.lawful c.requires.base
    (c.first-first.ensures.first ∙ ap (λ (a : Account). a.first) is)
    (c.into_entries.ensures ∙ ap (λ (a : Account). a.entries) c.into_book.ensures)
    c.requires.end
    (c.totals-totals.ensures ∙ ap (λ (a : Account). a.totals) c.book-2.ensures.book)

pub returns-clause-lawful : goal.returns-clause-lawful
returns-clause-lawful g c = subst IsLawful (sym (returns-clause-whole g c)) c.book.ensures.lawful

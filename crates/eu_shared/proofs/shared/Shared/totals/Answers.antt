-- The book behind the lock is the lawful one whose steps did so much
use Rattle.std.proofs.Common.{sym}
use Rattle.eu_shared.proofs.shared.Shared.totals.Goals as goal

pub returns : goal.returns
returns g c = (c.deref.result.now.book, c.book.ensures.lawful, sym (rw (c.book.ensures.book) at c.totals.ensures))

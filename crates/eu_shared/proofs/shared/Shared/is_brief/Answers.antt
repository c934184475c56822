-- The book behind the lock is the lawful one that lists so
use Rattle.eu_shared.proofs.shared.Shared.is_brief.Goals as goal

pub returns : goal.returns
returns g c is = (c.deref.result.now.book, c.book.ensures.lawful, rw (c.registry.ensures, c.book.ensures.book) at c.is_brief.ensures is)

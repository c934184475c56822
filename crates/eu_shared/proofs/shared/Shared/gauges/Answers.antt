-- The book behind the lock is the lawful one that shows them
use Rattle.std.proofs.lemmas.Result.{IfOk-weaker}
use Rattle.eu_shared.proofs.shared.Shared.gauges.Goals as goal

pub returns : goal.returns
returns g c =
    IfOk-weaker c.gauges.result _ _ (λ _ shows. (c.deref.result.now.book, c.book.ensures.lawful, rw (c.registry.ensures, c.book.ensures.book) at shows)) c.gauges.ensures

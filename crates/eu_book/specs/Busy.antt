-- A batch in flight keeps others back
use Rattle.std.specs.Prelude.{◌≡◌, ◌≢◌, ℕ, [], Some, slice_get, Result, Err}
use Rattle.eu_base.specs.declared.faults.Fault.{Fault}
use Rattle.eu_base.specs.declared.faults.Fault.TheVariants.{Busy}
use Rattle.eu_base.specs.Limits.{most_steps}
use Rattle.eu_book.specs.Account.{Account, IsLawful}
use Rattle.eu_book.specs.Desk.{BookAsks}
use Rattle.eu_model.specs.declared.asks.Answer.{Answer}
use Rattle.eu_model.specs.declared.asks.Ask.TheVariants.{Do}
use Rattle.eu_model.specs.declared.commands.Command.TheVariants.{Drain}
use Rattle.eu_model.specs.declared.queues.Queue.{Queue}

-- a book of which a batch is in flight for a peer, and which goes on, refuses every drain for that peer by Busy
abbrev pub DrainsAreBusy : Type 0
DrainsAreBusy = (a b : Account) (peer t : ℕ) (q : Queue) (r : Result Answer Fault) → IsLawful a → a.totals.steps ≢ most_steps
    → slice_get a.state.queues peer ≡ Some q → q.flight ≢ [] → BookAsks a (Do (Drain peer)) t r b → r ≡ Err Busy

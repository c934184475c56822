-- A batch in flight keeps others back
use Rattle.std.proofs.Common.{◌≡◌, ◌≢◌, ◌⊎◌, ⊎_elim, ℕ, not, eqb, cond, List, [], ◌∷◌, length, slice_get, Some, None, Ok, Err, refl, sym, ap, ◌∙◌, arith}
use Rattle.eu_base.specs.declared.faults.Fault.{Fault}
use Rattle.eu_base.specs.declared.faults.Fault.TheVariants.{Busy, EmptyBatch, Exhausted, OutOfMemory}
use Rattle.eu_base.specs.declared.tasks.Task.{Task}
use Rattle.eu_base.specs.Limits.{most_steps}
use Rattle.eu_book.specs.Account.{fault_of, known_fault}
use Rattle.eu_book.specs.Busy.{DrainsAreBusy}
use Rattle.eu_model.specs.declared.asks.Answer.TheVariants.{Did, Saw}
use Rattle.eu_model.specs.declared.commands.Command.TheVariants.{Drain}
use Rattle.eu_model.specs.declared.queues.Queue.{Queue}
use Rattle.eu_model.specs.Answers as model
use Rattle.eu_model.specs.Server.{PlainServer, drain_fault, live, queue_fault, server_fault}
use Rattle.eu_book.proofs.BookLemmas.{differs}

busy_of : (t : ℕ) (waiting flight : List Task) → flight ≢ [] → drain_fault t (record { waiting = waiting; flight = flight }) ≡ Some Busy
busy_of t waiting [] some = absurd (some refl)
busy_of t waiting (x ∷ xs) some =
    ap (λ b. cond (not b) (Some Busy) (cond (eqb (length (live t waiting)) 0) (Some EmptyBatch) None)) (differs (length (x ∷ xs)) 0 (λ e. omega (arith, e)))

-- what the queue refuses
busy : (qs : List Queue) (peer t : ℕ) (q : Queue) → slice_get qs peer ≡ Some q → q.flight ≢ [] → queue_fault (slice_get qs peer) (drain_fault t) ≡ Some Busy
busy qs peer t q at some = ap (λ o. queue_fault o (drain_fault t)) at ∙ busy_of t q.waiting q.flight some

some_none : {X : Type 0} (x : X) → Some x ≢ None
some_none x e = cc

first : (f g : Fault) → Some f ≡ Some g → g ≡ f
first f g e = cc

pub drains_are_busy : DrainsAreBusy
unfolding model.ServerAnswers model.IsServerAnswer
drains_are_busy a b peer t q (Ok (Did reply)) lawful other at some (number, x, x', applies) =
    let s = lawful.run.to in
    let fault : server_fault s (Drain peer) t ≡ Some Busy = ap (λ (p : PlainServer). queue_fault (slice_get p.queues peer) (drain_fault t)) lawful.run.ends ∙ busy a.state.queues peer t q at some in
    absurd (some_none Busy (sym fault ∙ (applies.step s lawful.run.ends).0))
drains_are_busy a b peer t q (Ok (Saw v)) lawful other at some none = absurd none
drains_are_busy a b peer t q (Err f) lawful other at some (refuses, same, memory) =
    let s = lawful.run.to in
    let fault : server_fault s (Drain peer) t ≡ Some Busy = ap (λ (p : PlainServer). queue_fault (slice_get p.queues peer) (drain_fault t)) lawful.run.ends ∙ busy a.state.queues peer t q at some in
    let known : known_fault a.totals.steps a.state.queues (Drain peer) t ≡ Some Busy =
    ap (λ full. cond full (Some Exhausted) (queue_fault (slice_get a.state.queues peer) (drain_fault t))) (differs a.totals.steps most_steps other) ∙ busy a.state.queues peer t q at some in
    let told : fault_of a s (Drain peer) t ≡ Some Busy = ap (λ full. cond full (Some Exhausted) (server_fault s (Drain peer) t)) (differs a.totals.steps most_steps other) ∙ fault in
    ap Err (⊎_elim (λ (e : f ≡ OutOfMemory). absurd (some_none Busy (sym known ∙ memory e))) (λ (e : fault_of a s (Drain peer) t ≡ Some f). first Busy f (sym told ∙ e)) (refuses s lawful.run.ends))

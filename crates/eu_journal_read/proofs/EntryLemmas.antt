-- Victims and tasks that follow a reply
use Rattle.std.proofs.Common.{◌≡◌, true, false, List, [], ◌∷◌, ◌++◌, Result, Ok, Err, refl, ap}
use Rattle.eu_base.specs.declared.names.Key.{Key}
use Rattle.eu_base.specs.declared.tasks.Task.{Task}
use Rattle.eu_base.specs.Gives.{◌>>=◌}
use Rattle.eu_journal_values.specs.declared.faults.LineFault.{LineFault}
use Rattle.eu_journal_values.specs.declared.faults.LineFault.TheVariants.{NotALine}
use Rattle.eu_journal.specs.declared.lines.JournalLine.TheVariants as line
use Rattle.eu_model.specs.declared.commands.Reply.{Reply}
use Rattle.eu_model.specs.declared.commands.Reply.TheVariants as reply
use Rattle.eu_journal_read.specs.Drafts.{completed, entry_more, entry_of, is_batch, is_eviction, reply_more}
use Rattle.eu_journal_read.specs.declared.entries.Asked.{Asked}

no_victim_reply : (r : Reply) (victims : List Key) (tasks : List Task) (k : Key) → is_eviction r ≡ false → reply_more (completed r victims tasks) (line.Victim k) ≡ Err NotALine
no_victim_reply (reply.Registered fresh) victims tasks k is = refl
no_victim_reply reply.Done victims tasks k is = refl
no_victim_reply reply.NotFound victims tasks k is = refl
no_victim_reply reply.Stale victims tasks k is = refl
no_victim_reply (reply.Conflict i) victims tasks k is = refl
no_victim_reply (reply.Last n) victims tasks k is = refl
no_victim_reply (reply.Expected n) victims tasks k is = refl
no_victim_reply reply.Settled victims tasks k is = refl
no_victim_reply (reply.Evicted keys) victims tasks k is = cc
no_victim_reply (reply.Batch some) victims tasks k is = refl

one_victim_reply : (r : Reply) (victims : List Key) (tasks : List Task) (k : Key) → is_eviction r ≡ true → reply_more (completed r victims tasks) (line.Victim k) ≡ Ok (completed r (victims ++ k ∷ []) tasks)
one_victim_reply (reply.Registered fresh) victims tasks k is = cc
one_victim_reply reply.Done victims tasks k is = cc
one_victim_reply reply.NotFound victims tasks k is = cc
one_victim_reply reply.Stale victims tasks k is = cc
one_victim_reply (reply.Conflict i) victims tasks k is = cc
one_victim_reply (reply.Last n) victims tasks k is = cc
one_victim_reply (reply.Expected n) victims tasks k is = cc
one_victim_reply reply.Settled victims tasks k is = cc
one_victim_reply (reply.Evicted keys) victims tasks k is = refl
one_victim_reply (reply.Batch some) victims tasks k is = cc

no_task_reply : (r : Reply) (victims : List Key) (tasks : List Task) (t : Task) → is_batch r ≡ false → reply_more (completed r victims tasks) (line.Sent t) ≡ Err NotALine
no_task_reply (reply.Registered fresh) victims tasks t is = refl
no_task_reply reply.Done victims tasks t is = refl
no_task_reply reply.NotFound victims tasks t is = refl
no_task_reply reply.Stale victims tasks t is = refl
no_task_reply (reply.Conflict i) victims tasks t is = refl
no_task_reply (reply.Last n) victims tasks t is = refl
no_task_reply (reply.Expected n) victims tasks t is = refl
no_task_reply reply.Settled victims tasks t is = refl
no_task_reply (reply.Evicted keys) victims tasks t is = refl
no_task_reply (reply.Batch some) victims tasks t is = cc

one_task_reply : (r : Reply) (victims : List Key) (tasks : List Task) (t : Task) → is_batch r ≡ true → reply_more (completed r victims tasks) (line.Sent t) ≡ Ok (completed r victims (tasks ++ t ∷ []))
one_task_reply (reply.Registered fresh) victims tasks t is = cc
one_task_reply reply.Done victims tasks t is = cc
one_task_reply reply.NotFound victims tasks t is = cc
one_task_reply reply.Stale victims tasks t is = cc
one_task_reply (reply.Conflict i) victims tasks t is = cc
one_task_reply (reply.Last n) victims tasks t is = cc
one_task_reply (reply.Expected n) victims tasks t is = cc
one_task_reply reply.Settled victims tasks t is = cc
one_task_reply (reply.Evicted keys) victims tasks t is = cc
one_task_reply (reply.Batch some) victims tasks t is = refl

pub no_victim : (a : Asked) (r : Reply) (victims : List Key) (tasks : List Task) (k : Key) → is_eviction r ≡ false → entry_more (entry_of a (completed r victims tasks)) (line.Victim k) ≡ Err NotALine
no_victim a r victims tasks k is = ap (λ (x : Result Reply LineFault). x >>= (λ more. Ok (record (entry_of a (completed r victims tasks)) { reply = more }))) (no_victim_reply r victims tasks k is)

pub one_victim : (a : Asked) (r : Reply) (victims : List Key) (tasks : List Task) (k : Key) → is_eviction r ≡ true → entry_more (entry_of a (completed r victims tasks)) (line.Victim k) ≡ Ok (entry_of a (completed r (victims ++ k ∷ []) tasks))
one_victim a r victims tasks k is = ap (λ (x : Result Reply LineFault). x >>= (λ more. Ok (record (entry_of a (completed r victims tasks)) { reply = more }))) (one_victim_reply r victims tasks k is)

pub no_task : (a : Asked) (r : Reply) (victims : List Key) (tasks : List Task) (t : Task) → is_batch r ≡ false → entry_more (entry_of a (completed r victims tasks)) (line.Sent t) ≡ Err NotALine
no_task a r victims tasks t is = ap (λ (x : Result Reply LineFault). x >>= (λ more. Ok (record (entry_of a (completed r victims tasks)) { reply = more }))) (no_task_reply r victims tasks t is)

pub one_task : (a : Asked) (r : Reply) (victims : List Key) (tasks : List Task) (t : Task) → is_batch r ≡ true → entry_more (entry_of a (completed r victims tasks)) (line.Sent t) ≡ Ok (entry_of a (completed r victims (tasks ++ t ∷ [])))
one_task a r victims tasks t is = ap (λ (x : Result Reply LineFault). x >>= (λ more. Ok (record (entry_of a (completed r victims tasks)) { reply = more }))) (one_task_reply r victims tasks t is)

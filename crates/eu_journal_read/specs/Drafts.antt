-- A state and an entry as far as they were read, and what a line adds to them
use Rattle.std.specs.Prelude.{◌≡◌, ◌⊎◌, ℕ, List, [], ◌∷◌, ◌++◌, length, Bool, true, false, ◌&&◌, not, ◌==◌, if◌then◌else◌, Option, Some, None, is_some, option_to_list, Result, Ok, Err}
use Rattle.eu_base.specs.declared.names.Key.{Key}
use Rattle.eu_base.specs.declared.statuses.Status.{Status}
use Rattle.eu_base.specs.declared.tasks.Task.{Task}
use Rattle.eu_model.specs.declared.commands.Entry.{Entry}
use Rattle.eu_model.specs.declared.commands.Reply.{Reply}
use Rattle.eu_model.specs.declared.commands.Reply.TheVariants as reply
use Rattle.eu_model.specs.declared.queues.Queue.{Queue}
use Rattle.eu_model.specs.declared.states.State.{State}
use Rattle.eu_model.specs.declared.views.Listed.{Listed}
use Rattle.eu_model.specs.Server.{idle}
use Rattle.eu_base.specs.Gives.{◌>>=◌}
use Rattle.eu_journal_values.specs.declared.faults.LineFault.{LineFault}
use Rattle.eu_journal_values.specs.declared.faults.LineFault.TheVariants.{NotALine, OutOfMemory}
use Rattle.eu_journal.specs.declared.lines.Head.{Head}
use Rattle.eu_journal.specs.declared.lines.JournalLine.{JournalLine}
use Rattle.eu_journal.specs.declared.lines.JournalLine.TheVariants as line
use Rattle.eu_journal_read.specs.declared.entries.Asked.{Asked}

-- ---- what a line changes

-- a value that took a line is what is defined, unless memory ran out
abbrev pub Becomes : {A : Type 0} → Result (Unit {0}) LineFault → A → Result A LineFault → Type 0
Becomes (Ok u) new defined = defined ≡ Ok new
Becomes (Err f) new defined = (f ≡ OutOfMemory) ⊎ (defined ≡ Err f)

-- ---- a state

-- its first line, its leases and rows, what the peers before the newest are to be told, and what the newest is, if one has begun
pub record Draft : Type 0 where
  pub head : Head
  pub leases : List Listed
  pub overrides : List (List ℕ × Status)
  pub queues : List Queue
  pub newest : Option Queue

-- the state that was read
abbrev pub state_of : Draft → State
state_of d = record {
  config = d.head.config;
  expected = d.head.expected;
  leases = d.leases;
  overrides = d.overrides;
  last = d.head.last;
  since = d.head.since;
  previous = d.head.previous;
  queues = d.queues ++ option_to_list d.newest;
}

-- after the first line
abbrev pub begun : Head → Draft
begun h = record { head = h; leases = []; overrides = []; queues = []; newest = None }

abbrev pub has_none : {A : Type 0} → List A → Bool
has_none xs = length xs == 0

abbrev pub has_no_peers : Draft → Bool
has_no_peers d = has_none d.queues && not (is_some d.newest)

-- what waits comes before what is in flight
abbrev pub waits_more : Option Queue → Task → Result Queue LineFault
waits_more None t = Err NotALine
waits_more (Some q) t = if has_none q.flight then Ok (record q { waiting = q.waiting ++ t ∷ [] }) else Err NotALine

abbrev pub flies_more : Option Queue → Task → Result Queue LineFault
flies_more None t = Err NotALine
flies_more (Some q) t = Ok (record q { flight = q.flight ++ t ∷ [] })

-- Leases come before rows, and rows before peers
abbrev pub state_more : Draft → JournalLine → Result Draft LineFault
state_more d (line.Lease l) = if has_none d.overrides && has_no_peers d then Ok (record d { leases = d.leases ++ l ∷ [] }) else Err NotALine
state_more d (line.Row id status) = if has_no_peers d then Ok (record d { overrides = d.overrides ++ (id, status) ∷ [] }) else Err NotALine
state_more d line.Peer = Ok (record d { queues = d.queues ++ option_to_list d.newest; newest = Some idle })
state_more d (line.Waiting t) = waits_more d.newest t >>= (λ q. Ok (record d { newest = Some q }))
state_more d (line.Flight t) = flies_more d.newest t >>= (λ q. Ok (record d { newest = Some q }))
state_more d _ = Err NotALine

-- ---- an entry

-- a reply with these victims, or these tasks, if it has such
abbrev pub completed : Reply → List Key → List Task → Reply
completed (reply.Evicted some) victims tasks = reply.Evicted victims
completed (reply.Batch some) victims tasks = reply.Batch tasks
completed r victims tasks = r

abbrev pub entry_of : Asked → Reply → Entry
entry_of a r = record { pass = a.pass; number = a.number; command = a.command; moment = a.moment; reply = r }

-- after its second line: of victims and tasks there are none yet
abbrev pub answered : Asked → Reply → Entry
answered a r = entry_of a (completed r [] [])

abbrev pub is_eviction : Reply → Bool
is_eviction (reply.Evicted keys) = true
is_eviction _ = false

abbrev pub is_batch : Reply → Bool
is_batch (reply.Batch tasks) = true
is_batch _ = false

-- an eviction has victims, and a batch has tasks
abbrev pub reply_more : Reply → JournalLine → Result Reply LineFault
reply_more (reply.Evicted keys) (line.Victim k) = Ok (reply.Evicted (keys ++ k ∷ []))
reply_more (reply.Batch tasks) (line.Sent t) = Ok (reply.Batch (tasks ++ t ∷ []))
reply_more _ _ = Err NotALine

abbrev pub entry_more : Entry → JournalLine → Result Entry LineFault
entry_more e l = reply_more e.reply l >>= (λ r. Ok (record e { reply = r }))

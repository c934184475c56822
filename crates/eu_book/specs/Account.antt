-- What a book keeps, and what a command changes in it
use Rattle.std.specs.Prelude.{◌≡◌, ◌⊎◌, ℕ, ◌+◌, ◌<◌, ◌≤◌, ◌^◌, ◌==◌, List, [], ◌∷◌, ◌++◌, length, slice_get, Option, Some, None, Ok, if◌then◌else◌}
use Rattle.std.specs.FinMap.{len}
use Rattle.eu_base.specs.declared.faults.Fault.{Fault}
use Rattle.eu_base.specs.declared.faults.Fault.TheVariants.{Exhausted, OutOfMemory}
use Rattle.eu_base.specs.declared.settings.Config.{Config}
use Rattle.eu_base.specs.Limits.{most_entries, most_peers, most_steps}
use Rattle.eu_clock.specs.Front.{Asks}
use Rattle.eu_core.specs.Stepped.{Chooses}
use Rattle.eu_model.specs.declared.commands.Command.{Command}
use Rattle.eu_model.specs.declared.commands.Command.TheVariants.{Drain, Landed, Lost}
use Rattle.eu_model.specs.declared.queues.Queue.{Queue}
use Rattle.eu_model.specs.declared.commands.Entry.{Entry}
use Rattle.eu_model.specs.declared.commands.Reply.{Reply}
use Rattle.eu_model.specs.declared.tallies.Tally.{Tally}
use Rattle.eu_model.specs.Delta.{delta, nothing, plus, tally_of}
use Rattle.eu_model.specs.Server.{Runs, IsNumbered, Server, PlainServer, plain_server, server_fault, queue_fault, drain_fault, landed_fault, lost_fault}
use Rattle.eu_model.specs.Server as server
use Rattle.eu_model.specs.Answers.{ServerAnswers}
use Rattle.eu_book.specs.declared.journal.Logged.{Logged}

-- the plain form that the entries begin at, the number of the first one, the entries, the plain form now, and what was done
pub record Account : Type 0 where
  pub base : PlainServer
  pub first : ℕ
  pub entries : List Entry
  pub state : PlainServer
  pub totals : Tally

-- the account of a server that was just opened, with so many peers
abbrev pub opened : Config → ℕ → ℕ → Account
opened config expected peers = record {
  base = plain_server (server.opened config expected peers);
  first = 0;
  entries = [];
  state = plain_server (server.opened config expected peers);
  totals = nothing;
}

-- a server that was just opened
pub record IsOpening (p : PlainServer) : Type 0 where
  pub config : Config
  pub expected : ℕ
  pub peers : ℕ
  pub expected_fits : expected < 2 ^ 32
  pub peers_fit : peers ≤ most_peers
  pub opened : p ≡ plain_server (server.opened config expected peers)

-- A book that has come this far since it was opened. The entries that its journal has dropped led from an opening to the base; those that it has lead from
-- there to the state, and are numbered from the first on, up to the steps that were made. What was done is what all of them did: as many leases are held
-- as were added and not removed
pub record IsLawful (a : Account) : Type 0 where
  pub start : PlainServer
  pub dropped : List Entry
  pub opening : IsOpening start
  pub came : Runs start dropped a.base
  pub came_numbered : IsNumbered 0 dropped
  pub first : a.first ≡ length dropped
  pub run : Runs a.base a.entries a.state
  pub numbered : IsNumbered a.first a.entries
  pub to_steps : a.first + length a.entries ≡ a.totals.steps
  pub totals : a.totals ≡ plus (tally_of dropped) (tally_of a.entries)
  pub leases : len a.state.registry.leases + a.totals.removed ≡ a.totals.added

-- lawful, with every number below its bound
pub record IsKept (a : Account) : Type 0 where
  pub lawful : IsLawful a
  pub fits : length a.entries ≤ most_entries
  pub steps : a.totals.steps ≤ most_steps
  pub counted : a.totals.counted ≤ a.totals.steps
  pub added : a.totals.added ≤ a.totals.steps

-- ---- a checkpoint

-- the journal begins anew where the book is: it has no entry, and the next one's number is that of the steps before it
abbrev pub cleared : Account → Account
cleared a = record { base = a.state; first = a.totals.steps; entries = []; state = a.state; totals = a.totals }

-- the account to which an entry is added: a journal that is full begins anew before
abbrev pub ready : Account → Account
ready a = if length a.entries == most_entries then cleared a else a

-- ---- a command that is accepted

abbrev pub entry : ℕ → ℕ → Command → ℕ → Reply → Entry
entry pass number c t reply = record { pass = pass; number = number; command = c; moment = t; reply = reply }

-- what a log keeps of it
abbrev pub logged : Command → ℕ → Reply → ℕ → Logged
logged c t reply number = record { command = c; moment = t; reply = reply; number = number }

-- one entry more, and the state that its step leads to
abbrev pub grown : Account → Entry → PlainServer → Account
grown a e state = record {
  base = a.base;
  first = a.first;
  entries = a.entries ++ e ∷ [];
  state = state;
  totals = plus a.totals (delta e.command e.reply);
}

-- A command of a pass at a moment is answered with this reply, which makes a step of the server, and its entry is the next one, whose number is that of the
-- steps before it; a journal that is full begins anew before. The chooser is asked as the machine's evictions ask
pub record Applies {S : Type 0} (asks : Asks S) (old : Account) (x : S) (e : Entry) (new : Account) (x' : S) : Type 0 where
  pub counts : old.totals.steps < most_steps
  pub numbered : e.number ≡ old.totals.steps
  pub step : ServerAnswers old.state e.command e.moment (Ok e.reply) new.state
  pub chooses : Chooses asks old.state.registry x e.command e.moment e.reply x'
  pub whole : new ≡ grown (ready old) e new.state

-- ---- one that is refused

-- the first fault, if there is one: that the steps are as many as are counted at most, or the server's
abbrev pub fault_of : Account → Server → Command → ℕ → Option Fault
fault_of a s c t = if a.totals.steps == most_steps then Some Exhausted else server_fault s c t

-- why the queue of a peer refuses a command, if it does; only a command that speaks of one is refused so
abbrev pub queues_fault : List Queue → Command → ℕ → Option Fault
queues_fault qs (Drain peer) t = queue_fault (slice_get qs peer) (drain_fault t)
queues_fault qs (Landed peer codes) t = queue_fault (slice_get qs peer) (landed_fault codes)
queues_fault qs (Lost peer) t = queue_fault (slice_get qs peer) lost_fault
queues_fault qs c t = None

-- the first fault that needs no memory to be known, if there is one, where so many steps were made
abbrev pub known_fault : ℕ → List Queue → Command → ℕ → Option Fault
known_fault steps qs c t = if steps == most_steps then Some Exhausted else queues_fault qs c t

-- a command is refused by this fault, of each server of that plain form: by its first one, or for want of memory in place of any
abbrev pub Refuses : Account → Command → ℕ → Fault → Type 0
Refuses a c t f = (s : Server) → plain_server s ≡ a.state → (f ≡ OutOfMemory) ⊎ (fault_of a s c t ≡ Some f)

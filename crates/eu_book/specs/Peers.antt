-- The peers of a book: what waits for each, and what a command tells them
use Rattle.std.specs.Prelude.{◌≡◌, ◌≢◌, ◌⊎◌, ℕ, ◌<◌, false, List, map, Option, Some, None, Result, Err}
use Rattle.eu_base.specs.declared.faults.Fault.{Fault}
use Rattle.eu_base.specs.declared.faults.Fault.TheVariants.{Exhausted, OutOfMemory}
use Rattle.eu_base.specs.declared.names.Key.{Key}
use Rattle.eu_core.specs.State as registry
use Rattle.eu_model.specs.declared.commands.Command.{Command}
use Rattle.eu_model.specs.declared.commands.Command.TheVariants.{Register, Renew, Cancel, SetStatus, UnsetStatus}
use Rattle.eu_model.specs.declared.commands.Reply.{Reply}
use Rattle.eu_model.specs.declared.queues.Queue.{Queue}
use Rattle.eu_model.specs.declared.states.State.{State}
use Rattle.eu_model.specs.Plain.{Plain}
use Rattle.eu_model.specs.Server.{PlainServer}
use Rattle.eu_model.specs.Answers.{ServerAnswers}
use Rattle.eu_outbox.specs.Boxed.{Boxed}
use Rattle.eu_base.specs.Limits.{most_steps}

-- the queues of outboxes
abbrev pub queues_of : List Boxed → List Queue
queues_of boxes = map (λ b. b.queue) boxes

-- a registry and outboxes are such a server
abbrev pub server_with : Plain → List Boxed → PlainServer
server_with p boxes = record { registry = p; queues = queues_of boxes }

-- a task can be put into an outbox without taking memory
abbrev pub IsReady : Boxed → Type 0
IsReady b = 0 < b.room

-- the key of the lease of which the peers may be told by a command: one that no peer sent, and that names a lease
abbrev pub told_key : Command → Option Key
told_key (Register n false) = Some n.key
told_key (Renew k last_dirty overridden false) = Some k
told_key (Cancel k false) = Some k
told_key (SetStatus k status last_dirty false) = Some k
told_key (UnsetStatus k suggested last_dirty false) = Some k
told_key _ = None

-- whatever the registry holds, a command is answered so, which changes the outboxes alone
abbrev pub QueuesAnswer : List Boxed → Command → ℕ → Result Reply Fault → List Boxed → Type 0
QueuesAnswer old c t result new = (p : Plain) → ServerAnswers (server_with p old) c t result (server_with p new)

-- a server as plain data: the registry as it is alone, with the queues of its peers
abbrev pub state_of : PlainServer → State
state_of p = record (registry.state_of p.registry) { queues = p.queues }

-- a command is refused by this fault: as each server of this plain form refuses it, or for want of memory in place of that
abbrev pub MayRefuse : PlainServer → Command → ℕ → Fault → Type 0
MayRefuse p c t f = (f ≡ OutOfMemory) ⊎ ServerAnswers p c t (Err f) p

-- the same, where so many steps were made: by `Exhausted` where they are as many as are counted at most, and only there
abbrev pub IsRefused : ℕ → PlainServer → Command → ℕ → Fault → Type 0
IsRefused steps p c t f = ((steps ≡ most_steps) × (f ≡ Exhausted)) ⊎ ((steps ≢ most_steps) × MayRefuse p c t f)

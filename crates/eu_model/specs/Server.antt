-- The machine with the queues of its peers: its steps, its runs and its plain form
use Rattle.std.specs.Prelude.{ℕ, ◌+◌, ◌-◌, Bool, not, ◌&&◌, ◌==◌, List, [], ◌∷◌, ◌++◌, length, take, drop, map, filter, Option, Some, None, nat_lt, if◌then◌else◌, ◌≡◌, true, false, replicate, slice_get, slice_set}
use Rattle.std.specs.List.{list_any}
use Rattle.eu_base.specs.declared.faults.Fault.{Fault}
use Rattle.eu_base.specs.declared.faults.Fault.TheVariants.{Busy, EmptyBatch, NoFlight, CountDiffers, NoPeer}
use Rattle.eu_base.specs.declared.tasks.Action.TheVariants.{Register, Heartbeat}
use Rattle.eu_base.specs.declared.tasks.Task.{Task}
use Rattle.eu_base.specs.Values.{is_action, same_name}
use Rattle.eu_base.specs.Limits.{most_sent, most_waiting, task_age}
use Rattle.eu_model.specs.declared.queues.Queue.{Queue}
use Rattle.std.specs.Option.{option_map}
use Rattle.std.specs.FinMap.{get}
use Rattle.eu_base.specs.declared.instances.Instance.{Instance}
use Rattle.eu_base.specs.declared.names.Key.{Key}
use Rattle.eu_base.specs.declared.settings.Config.{Config}
use Rattle.eu_base.specs.declared.statuses.Status.{Status}
use Rattle.eu_base.specs.declared.tasks.Action.{Action}
use Rattle.eu_model.specs.declared.commands.Command.{Command}
use Rattle.eu_model.specs.declared.commands.Command.TheVariants.{Register, Renew, Cancel, SetStatus, UnsetStatus, Adopt, EndMinute, Update, Reconfigure, Evict, Drain, Landed, Lost}
use Rattle.eu_model.specs.declared.commands.Entry.{Entry}
use Rattle.eu_model.specs.declared.commands.Reply.{Reply}
use Rattle.eu_model.specs.declared.commands.Reply.TheVariants.{Registered, Done, Stale, Batch, Settled}
use Rattle.eu_model.specs.Machine.{Machine, opening}
use Rattle.eu_model.specs.Plain.{Plain, plain}
use Rattle.eu_model.specs.Step.{fault, Step}
use Rattle.eu_base.specs.declared.tasks.Action.TheVariants as action

-- ---- the tasks that wait for a peer, and those that are in flight to it (`PeerEurekaNode` and `AcceptorExecutor` in Eureka)

-- no task
abbrev pub idle : Queue
idle = record { waiting = []; flight = [] }

abbrev pub is_old : ℕ → Task → Bool
is_old t task = nat_lt (task.queued + task_age) t

-- those that are still worth sending
abbrev pub live : ℕ → List Task → List Task
live t tasks = filter (λ task. not (is_old t task)) tasks

-- one of that name is among the tasks
abbrev pub waits : Task → List Task → Bool
waits task tasks = list_any (same_name task) tasks

-- no more than so many wait: the first are dropped
abbrev pub bounded : List Task → List Task
bounded tasks = drop (length tasks - most_waiting) tasks

-- A task is put: in the place of the one of its name that waits, else last
abbrev pub put : Task → List Task → List Task
put task waiting =
    if waits task waiting then map (λ other. if same_name task other then task else other) waiting else bounded (waiting ++ task ∷ [])

-- The first that are still worth sending go in flight, and the others wait on
abbrev pub drained : ℕ → Queue → Queue
drained t q = record { waiting = drop most_sent (live t q.waiting); flight = take most_sent (live t q.waiting) }

-- why nothing goes in flight: a batch is there already, or nothing waits that is worth sending
abbrev pub drain_fault : ℕ → Queue → Option Fault
drain_fault t q =
    if not (length q.flight == 0) then Some Busy
    else if length (live t q.waiting) == 0 then Some EmptyBatch
    else None

-- the registration by which a heartbeat is followed that found no lease (`PeerEurekaNode.heartbeat`)
abbrev pub again : ℕ → Task → Task
again t task = record task { action = Register; status = None; queued = t }

-- what the answer to a task leaves to wait: a heartbeat that found no lease (404) is followed by a registration, unless one waits
abbrev pub after_code : ℕ → Task → ℕ → List Task → List Task
after_code t task code waiting =
    if is_action task.action Heartbeat && (code == 404) && not (waits (again t task) waiting) then put (again t task) waiting else waiting

-- the same of each task with its code, in order
abbrev pub after_codes : ℕ → List Task → List ℕ → List Task → List Task
after_codes t [] codes waiting = waiting
after_codes t (task ∷ tasks) [] waiting = waiting
after_codes t (task ∷ tasks) (code ∷ codes) waiting = after_codes t tasks codes (after_code t task code waiting)

-- The batch in flight has landed, and was answered by these codes
abbrev pub landed : ℕ → List ℕ → Queue → Queue
landed t codes q = record { waiting = after_codes t q.flight codes q.waiting; flight = [] }

abbrev pub landed_fault : List ℕ → Queue → Option Fault
landed_fault codes q =
    if length q.flight == 0 then Some NoFlight
    else if not (length codes == length q.flight) then Some CountDiffers
    else None

-- The batch in flight was lost: what is still worth sending, and of whose name none waits, waits again, before the others
abbrev pub lost : ℕ → Queue → Queue
lost t q = record { waiting = bounded (filter (λ task. not (waits task q.waiting)) (live t q.flight) ++ q.waiting); flight = [] }

abbrev pub lost_fault : Queue → Option Fault
lost_fault q = if length q.flight == 0 then Some NoFlight else None

-- ---- a server: the lease machine, and a queue for each peer

pub record Server : Type 0 where
  pub machine : Machine
  pub queues : List Queue

-- a server as it is opened, with so many peers
abbrev pub opened : Config → ℕ → ℕ → Server
opened config expected peers = record { machine = opening config expected; queues = replicate peers idle }

-- ---- what a step queues

-- the key of the lease that a command names
abbrev pub key_of : Command → Option Key
key_of (Register n replicated) = Some n.key
key_of (Renew k last_dirty overridden replicated) = Some k
key_of (Cancel k replicated) = Some k
key_of (SetStatus k status last_dirty replicated) = Some k
key_of (UnsetStatus k suggested last_dirty replicated) = Some k
key_of (Adopt n) = Some n.key
key_of EndMinute = None
key_of Update = None
key_of (Reconfigure config) = None
key_of Evict = None
key_of (Drain peer) = None
key_of (Landed peer codes) = None
key_of (Lost peer) = None

-- the instance that is held under a key, where one is named
abbrev pub instance_at : Machine → Option Key → Option Instance
instance_at s None = None
instance_at s (Some k) = option_map (λ r. r.instance) (get s.leases k)

abbrev pub task : Action → Key → Option Status → Option Instance → ℕ → Task
task action k status instance t = record { action = action; key = k; status = status; instance = instance; queued = t }

-- The task of a step that no peer sent, by its reply; `held` is the instance that is held after it under the command's key. Other
-- steps and replies have none
abbrev pub task_for : Command → ℕ → Reply → Option Instance → Option Task
task_for (Register n false) t (Registered fresh) held = Some (task action.Register n.key None held t)
task_for (Renew k last_dirty overridden false) t Done held = Some (task action.Heartbeat k None held t)
task_for (Renew k last_dirty overridden false) t Stale held = Some (task action.Heartbeat k None held t)
task_for (Cancel k false) t Done held = Some (task action.Cancel k None None t)
task_for (SetStatus k status last_dirty false) t Done held = Some (task action.StatusUpdate k (Some status) held t)
task_for (UnsetStatus k suggested last_dirty false) t Done held =
    Some (task action.DeleteStatusOverride k (option_map (λ i. i.status) held) held t)
task_for _ t _ held = None

-- it is put into a queue
abbrev pub with_task : Option Task → Queue → Queue
with_task None q = q
with_task (Some x) q = record q { waiting = put x q.waiting }

-- ---- steps

-- it speaks of the queue of a peer
abbrev pub is_for_peers : Command → Bool
is_for_peers (Drain peer) = true
is_for_peers (Landed peer codes) = true
is_for_peers (Lost peer) = true
is_for_peers _ = false

-- what this does to the queue of a peer, and to nothing else
abbrev pub TurnsQueue : Server → ℕ → (Queue → Queue) → Queue → Server → Type 0
TurnsQueue old peer turn next new =
    (q : Queue) × (slice_get old.queues peer ≡ Some q) × (next ≡ turn q)
    × (new ≡ record old { queues = slice_set old.queues peer next })

-- From old, the server may answer the command so at the moment t, and go on to new
abbrev pub ServerStep : Server → Command → ℕ → Reply → Server → Type 0
ServerStep old (Drain peer) t reply new = (next : Queue) × TurnsQueue old peer (drained t) next new × (reply ≡ Batch next.flight)
ServerStep old (Landed peer codes) t reply new = (next : Queue) × TurnsQueue old peer (landed t codes) next new × (reply ≡ Settled)
ServerStep old (Lost peer) t reply new = (next : Queue) × TurnsQueue old peer (lost t) next new × (reply ≡ Settled)
-- any other is a step of the machine, whose task goes into each queue
ServerStep old c t reply new =
    Step old.machine c t reply new.machine × (new.queues ≡ map (with_task (task_for c t reply (instance_at new.machine (key_of c)))) old.queues)

-- ---- faults

-- there is no such peer; else its queue refuses
abbrev pub queue_fault : Option Queue → (Queue → Option Fault) → Option Fault
queue_fault None refuses = Some NoPeer
queue_fault (Some q) refuses = refuses q

-- why a command is refused, if it is
abbrev pub server_fault : Server → Command → ℕ → Option Fault
server_fault s (Drain peer) t = queue_fault (slice_get s.queues peer) (drain_fault t)
server_fault s (Landed peer codes) t = queue_fault (slice_get s.queues peer) (landed_fault codes)
server_fault s (Lost peer) t = queue_fault (slice_get s.queues peer) lost_fault
server_fault s c t = fault s.machine c t

-- each entry is a step that isn't refused, from the server where the one before ended. Pass and number play no part
abbrev pub Run : Server → List Entry → Server → Type 0
Run old [] new = new ≡ old
Run old (e ∷ es) new =
    (mid : Server) × (server_fault old e.command e.moment ≡ None) × ServerStep old e.command e.moment e.reply mid × Run mid es new

-- ---- plain forms

-- the plain form of the machine, and the queues as they are
pub record PlainServer : Type 0 where
  pub registry : Plain
  pub queues : List Queue

abbrev pub plain_server : Server → PlainServer
plain_server s = record { registry = plain s.machine; queues = s.queues }

-- ---- runs between plain forms, and their numbers

-- a run between two servers of these plain forms
pub record Runs (p : PlainServer) (es : List Entry) (q : PlainServer) : Type 0 where
  pub from : Server
  pub to : Server
  pub begins : plain_server from ≡ p
  pub ends : plain_server to ≡ q
  pub run : Run from es to

-- the entries are numbered one after another
abbrev pub IsNumbered : ℕ → List Entry → Type 0
IsNumbered first [] = Unit {0}
IsNumbered first (e ∷ es) = (e.number ≡ first) × IsNumbered (first + 1) es

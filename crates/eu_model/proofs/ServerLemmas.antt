-- What a server does depends on the plain form of its machine, and on its queues; what peers and timers do queues nothing
use Rattle.std.proofs.Common.{◌≡◌, ℕ, false, List, map, Option, Some, None, refl, sym, ap, ◌∙◌}
use Rattle.std.specs.Prelude.{slice_get, slice_set}
use Rattle.std.specs.Option.{option_map}
use Rattle.std.specs.FinMap.{get}
use Rattle.std.proofs.lemmas.List.{map-id}
use Rattle.eu_base.specs.declared.faults.Fault.{Fault}
use Rattle.eu_base.specs.declared.names.Key.{Key}
use Rattle.eu_model.specs.declared.commands.Command.{Command}
use Rattle.eu_model.specs.declared.commands.Command.TheVariants.{Register, Renew, Cancel, SetStatus, UnsetStatus, Drain, Landed, Lost}
use Rattle.eu_model.specs.declared.commands.Reply.{Reply}
use Rattle.eu_model.specs.Machine.{Machine, Record}
use Rattle.eu_model.specs.Plain.{plain, listed, held_under}
use Rattle.eu_model.specs.declared.queues.Queue.{Queue}
use Rattle.eu_model.specs.Server.{drained, drain_fault, landed, landed_fault, lost, lost_fault, Server, plain_server, instance_at, key_of, task_for, with_task, queue_fault, TurnsQueue}
use Rattle.eu_model.specs.Step.{fault, Step}
use Rattle.eu_model.specs.ServerLaw.{NothingIsQueued, ServersStepAlike, ServersFaultAlike}
use Rattle.eu_model.proofs.ChangedLemmas.{held_of}
use Rattle.eu_model.proofs.LawLemmas.{steps_alike, faults_alike}

-- ---- what is held, by the plain form

unlisted : (held : Option Record) → option_map (λ r. r.instance) held ≡ option_map (λ l. l.instance) (option_map listed held)
unlisted None = refl
unlisted (Some r) = refl

pub instance-kept : (s : Machine) (k : Option Key) → instance_at s k ≡ held_under (plain s) k
instance-kept s None = refl
instance-kept s (Some k) = unlisted (get s.leases k) ∙ ap (option_map (λ l. l.instance)) (held_of s k)

instances_alike : (s s' : Machine) (k : Option Key) → plain s ≡ plain s' → instance_at s k ≡ instance_at s' k
instances_alike s s' k e = instance-kept s k ∙ ap (λ p. held_under p k) e ∙ sym (instance-kept s' k)

-- ---- steps

-- a step of the machine, whose task goes into each queue
abbrev pub MachineStep : Server → Command → ℕ → Reply → Server → Type 0
MachineStep s c t reply new = Step s.machine c t reply new.machine × (new.queues ≡ map (with_task (task_for c t reply (instance_at new.machine (key_of c)))) s.queues)

machine_alike : (s s' : Server) (c : Command) (t : ℕ) (reply : Reply) (new : Server) → plain_server s ≡ plain_server s' → MachineStep s c t reply new
    → (new' : Server) × MachineStep s' c t reply new' × (plain_server new' ≡ plain_server new)
machine_alike s s' c t reply new e (step, queued) =
    let next = steps_alike s.machine s'.machine c t reply new.machine (ap (λ p. p.registry) e) step in
    let held = instances_alike new.machine next.0 (key_of c) (sym next.2) in (
      record { machine = next.0; queues = new.queues },
      (next.1, queued ∙ ap (λ h. map (with_task (task_for c t reply h)) s.queues) held ∙ ap (λ p. map (with_task (task_for c t reply (instance_at next.0 (key_of c)))) p.queues) e),
      (λ i. record { registry = next.2 i; queues = new.queues }),
    )

queue_alike : (s s' : Server) (peer : ℕ) (turn : Queue → Queue) (next : Queue) (new : Server) → plain_server s ≡ plain_server s' → TurnsQueue s peer turn next new
    → (new' : Server) × TurnsQueue s' peer turn next new' × (plain_server new' ≡ plain_server new)
queue_alike s s' peer turn next new e (q, found, is, whole) = (
  record s' { queues = slice_set s'.queues peer next },
  (q, ap (λ p. slice_get p.queues peer) (sym e) ∙ found, is, refl),
  ap (λ p. record { registry = p.registry; queues = slice_set p.queues peer next }) (sym e) ∙ ap plain_server (sym whole),
)

pub servers_step_alike : ServersStepAlike
servers_step_alike s s' (Drain peer) t reply new e (next, turns, is) = let n = queue_alike s s' peer (drained t) next new e turns in (n.0, (next, n.1, is), n.2)
servers_step_alike s s' (Landed peer codes) t reply new e (next, turns, is) = let n = queue_alike s s' peer (landed t codes) next new e turns in (n.0, (next, n.1, is), n.2)
servers_step_alike s s' (Lost peer) t reply new e (next, turns, is) = let n = queue_alike s s' peer (lost t) next new e turns in (n.0, (next, n.1, is), n.2)
servers_step_alike s s' c t reply new e step = machine_alike s s' c t reply new e step

-- ---- faults

machine_faults : (s s' : Server) (c : Command) (t : ℕ) → plain_server s ≡ plain_server s' → fault s.machine c t ≡ fault s'.machine c t
machine_faults s s' c t e = faults_alike s.machine s'.machine c t (ap (λ p. p.registry) e)

queue_faults : (s s' : Server) (peer : ℕ) (refuses : Queue → Option Fault) → plain_server s ≡ plain_server s' → queue_fault (slice_get s.queues peer) refuses ≡ queue_fault (slice_get s'.queues peer) refuses
queue_faults s s' peer refuses e = ap (λ p. queue_fault (slice_get p.queues peer) refuses) e

pub servers_fault_alike : ServersFaultAlike
servers_fault_alike s s' (Drain peer) t e = queue_faults s s' peer (drain_fault t) e
servers_fault_alike s s' (Landed peer codes) t e = queue_faults s s' peer (landed_fault codes) e
servers_fault_alike s s' (Lost peer) t e = queue_faults s s' peer lost_fault e
servers_fault_alike s s' c t e = machine_faults s s' c t e

-- ---- what peers and timers do

no_task : (qs : List Queue) → map (with_task None) qs ≡ qs
no_task qs = map-id qs

pub nothing_is_queued : NothingIsQueued
nothing_is_queued s (Register n false) t reply new step e = cc
nothing_is_queued s (Renew k last_dirty overridden false) t reply new step e = cc
nothing_is_queued s (Cancel k false) t reply new step e = cc
nothing_is_queued s (SetStatus k status last_dirty false) t reply new step e = cc
nothing_is_queued s (UnsetStatus k suggested last_dirty false) t reply new step e = cc
nothing_is_queued s (Drain peer) t reply new step e = cc
nothing_is_queued s (Landed peer codes) t reply new step e = cc
nothing_is_queued s (Lost peer) t reply new step e = cc
nothing_is_queued s c t reply new step e = step.1 ∙ no_task s.queues

-- The runs of the machine are those of its plain form
use Rattle.std.proofs.Common.{◌≡◌, ℕ, List, [], ◌∷◌, refl, sym, ap, ◌∙◌, subst}
use Rattle.std.specs.Prelude.{map, Option, Some, None, slice_get, slice_set}
use Rattle.eu_base.specs.declared.faults.Fault.{Fault}
use Rattle.eu_model.specs.declared.commands.Command.{Command}
use Rattle.eu_model.specs.declared.commands.Command.TheVariants.{Drain, Landed, Lost}
use Rattle.eu_model.specs.declared.commands.Entry.{Entry}
use Rattle.eu_model.specs.declared.commands.Reply.{Reply}
use Rattle.eu_model.specs.declared.queues.Queue.{Queue}
use Rattle.eu_model.specs.Step.{fault}
use Rattle.eu_model.specs.Plain.{held_under}
use Rattle.eu_model.specs.Server.{drained, drain_fault, landed, landed_fault, lost, lost_fault, Server, PlainServer, plain_server, ServerStep, server_fault, queue_fault, TurnsQueue, Run, key_of, task_for, with_task, Runs}
use Rattle.eu_model.proofs.AccountLemmas.{raise_server}
use Rattle.eu_model.proofs.ServerLemmas.{MachineStep, instance-kept}
use Rattle.eu_audit.specs.PlainRuns.{Turns, Queued, PlainServerStep, PlainRun, RunsArePlain}
use Rattle.eu_audit.proofs.StepLemmas.{step_down, step_up}

-- ---- steps of the registry

machine_down : (s : Server) (c : Command) (t : ℕ) (reply : Reply) (new : Server) → fault s.machine c t ≡ None → MachineStep s c t reply new
    → Queued (plain_server s) c t reply (plain_server new)
machine_down s c t reply new none step = (
  step_down s.machine c t reply new.machine none step.0,
  step.1 ∙ ap (λ held. map (with_task (task_for c t reply held)) s.queues) (instance-kept new.machine (key_of c)),
)

-- what a step of a plain form comes from, with the queues
abbrev RaisedTo : Server → Command → ℕ → Reply → PlainServer → Type 0
RaisedTo s c t reply q = (server_fault s c t ≡ None) × ((new : Server) × ServerStep s c t reply new × (plain_server new ≡ q))

machine_up : (s : Server) (c : Command) (t : ℕ) (reply : Reply) (q : PlainServer) → Queued (plain_server s) c t reply q
    → (fault s.machine c t ≡ None) × ((new : Server) × MachineStep s c t reply new × (plain_server new ≡ q))
machine_up s c t reply q step =
    let raised = step_up s.machine c t reply q.registry step.0 in
    let held = ap (λ p. held_under p (key_of c)) (sym raised.1.2) ∙ sym (instance-kept raised.1.0 (key_of c)) in (
      raised.0,
      (
        record { machine = raised.1.0; queues = q.queues },
        (raised.1.1, step.1 ∙ ap (λ h. map (with_task (task_for c t reply h)) s.queues) held),
        λ i. record { registry = raised.1.2 i; queues = q.queues },
      ),
    )

-- ---- steps of a queue

refuses_none : (refuses : Queue → Option Fault) (found : Option Queue) (q : Queue) → found ≡ Some q → queue_fault found refuses ≡ None → refuses q ≡ None
refuses_none refuses found q at none = ap (λ o. queue_fault o refuses) (sym at) ∙ none

turns_down : (s : Server) (peer : ℕ) (refuses : Queue → Option Fault) (turn : Queue → Queue) (next : Queue) (new : Server) → queue_fault (slice_get s.queues peer) refuses ≡ None
    → TurnsQueue s peer turn next new → Turns (plain_server s) peer refuses turn next (plain_server new)
turns_down s peer refuses turn next new none (q, at, is, whole) = (q, at, refuses_none refuses (slice_get s.queues peer) q at none, is, ap plain_server whole)

turns_up : (s : Server) (peer : ℕ) (refuses : Queue → Option Fault) (turn : Queue → Queue) (next : Queue) (p : PlainServer) → Turns (plain_server s) peer refuses turn next p
    → (queue_fault (slice_get s.queues peer) refuses ≡ None) × ((new : Server) × TurnsQueue s peer turn next new × (plain_server new ≡ p))
turns_up s peer refuses turn next p (q, at, none, is, whole) = (
  ap (λ o. queue_fault o refuses) at ∙ none,
  (record s { queues = slice_set s.queues peer next }, (q, at, is, refl), sym whole),
)

-- ---- steps of the whole

server_down : (s : Server) (c : Command) (t : ℕ) (reply : Reply) (new : Server) → server_fault s c t ≡ None → ServerStep s c t reply new
    → PlainServerStep (plain_server s) c t reply (plain_server new)
server_down s (Drain peer) t reply new none (next, turns, is) = (next, turns_down s peer (drain_fault t) (drained t) next new none turns, is)
server_down s (Landed peer codes) t reply new none (next, turns, is) = (next, turns_down s peer (landed_fault codes) (landed t codes) next new none turns, is)
server_down s (Lost peer) t reply new none (next, turns, is) = (next, turns_down s peer lost_fault (lost t) next new none turns, is)
server_down s c t reply new none step = machine_down s c t reply new none step

server_up : (s : Server) (c : Command) (t : ℕ) (reply : Reply) (q : PlainServer) → PlainServerStep (plain_server s) c t reply q → RaisedTo s c t reply q
server_up s (Drain peer) t reply q (next, turns, is) =
    let raised = turns_up s peer (drain_fault t) (drained t) next q turns in (raised.0, (raised.1.0, (next, raised.1.1, is), raised.1.2))
server_up s (Landed peer codes) t reply q (next, turns, is) =
    let raised = turns_up s peer (landed_fault codes) (landed t codes) next q turns in (raised.0, (raised.1.0, (next, raised.1.1, is), raised.1.2))
server_up s (Lost peer) t reply q (next, turns, is) =
    let raised = turns_up s peer lost_fault (lost t) next q turns in (raised.0, (raised.1.0, (next, raised.1.1, is), raised.1.2))
server_up s c t reply q step = machine_up s c t reply q step

-- ---- runs

run_down : (es : List Entry) (s new : Server) → Run s es new → PlainRun (plain_server s) es (plain_server new)
run_down [] s new run = ap plain_server run
run_down (e ∷ es) s new run = (plain_server run.0, server_down s e.command e.moment e.reply run.0 run.1 run.2, run_down es run.0 new run.3)

run_up : (es : List Entry) (s : Server) (p q : PlainServer) → plain_server s ≡ p → PlainRun p es q → (new : Server) × Run s es new × (plain_server new ≡ q)
run_up [] s p q at run = (s, refl, at ∙ sym run)
run_up (e ∷ es) s p q at run =
    let raised = server_up s e.command e.moment e.reply run.0 (subst (λ x. PlainServerStep x e.command e.moment e.reply run.0) (sym at) run.1) in
    let rest = run_up es raised.1.0 run.0 q raised.1.2 run.2 in
    (rest.0, (raised.1.0, raised.0, raised.1.1, rest.1), rest.2)

runs_down : (p : PlainServer) (es : List Entry) (q : PlainServer) → Runs p es q → PlainRun p es q
runs_down p es q runs =
    subst (λ x. PlainRun x es q) runs.begins (subst (λ x. PlainRun (plain_server runs.from) es x) runs.ends (run_down es runs.from runs.to runs.run))

runs_up : (p : PlainServer) (es : List Entry) (q : PlainServer) → PlainRun p es q → Runs p es q
runs_up p es q run =
    let from = raise_server p in
    let raised = run_up es from.0 p q from.1 run in
    record { from = from.0; to = raised.0; begins = from.1; ends = raised.2; run = raised.1 }

pub runs_are_plain : RunsArePlain
runs_are_plain p es q = (runs_down p es q, runs_up p es q)

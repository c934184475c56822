-- Runs of plain forms: each entry in turn, by its command, its moment and its reply
use Rattle.std.specs.Prelude.{◌≡◌, ◌↔◌, ℕ, List, [], ◌∷◌, map, Some, None, slice_get, slice_set, Option}
use Rattle.eu_base.specs.declared.faults.Fault.{Fault}
use Rattle.eu_model.specs.declared.commands.Command.{Command}
use Rattle.eu_model.specs.declared.commands.Command.TheVariants.{Drain, Landed, Lost}
use Rattle.eu_model.specs.declared.commands.Entry.{Entry}
use Rattle.eu_model.specs.declared.commands.Reply.{Reply}
use Rattle.eu_model.specs.declared.commands.Reply.TheVariants.{Batch, Settled}
use Rattle.eu_model.specs.declared.queues.Queue.{Queue}
use Rattle.eu_model.specs.Plain.{held_under}
use Rattle.eu_model.specs.PlainSteps.{PlainStep}
use Rattle.eu_model.specs.Server.{drained, drain_fault, landed, landed_fault, lost, lost_fault, PlainServer, key_of, task_for, with_task, Runs}

-- ---- the registry with the queues of its peers

-- the queue of a peer refuses nothing, and turns into this one; all else stays
abbrev pub Turns : PlainServer → ℕ → (Queue → Option Fault) → (Queue → Queue) → Queue → PlainServer → Type 0
Turns old peer refuses turn next new =
    (q : Queue) × (slice_get old.queues peer ≡ Some q) × (refuses q ≡ None) × (next ≡ turn q)
    × (new ≡ record old { queues = slice_set old.queues peer next })

-- a step of the registry, whose task goes into each queue
abbrev pub Queued : PlainServer → Command → ℕ → Reply → PlainServer → Type 0
Queued old c t reply new =
    PlainStep old.registry c t reply new.registry
    × (new.queues ≡ map (with_task (task_for c t reply (held_under new.registry (key_of c)))) old.queues)

abbrev pub PlainServerStep : PlainServer → Command → ℕ → Reply → PlainServer → Type 0
PlainServerStep old (Drain peer) t reply new = (next : Queue) × Turns old peer (drain_fault t) (drained t) next new × (reply ≡ Batch next.flight)
PlainServerStep old (Landed peer codes) t reply new = (next : Queue) × Turns old peer (landed_fault codes) (landed t codes) next new × (reply ≡ Settled)
PlainServerStep old (Lost peer) t reply new = (next : Queue) × Turns old peer lost_fault (lost t) next new × (reply ≡ Settled)
-- any other is a step of the registry
PlainServerStep old c t reply new = Queued old c t reply new

-- each entry is such a step, from where the one before ended
abbrev pub PlainRun : PlainServer → List Entry → PlainServer → Type 0
PlainRun old [] new = new ≡ old
PlainRun old (e ∷ es) new = (mid : PlainServer) × PlainServerStep old e.command e.moment e.reply mid × PlainRun mid es new

-- the runs of the lease machine are these
abbrev pub RunsArePlain : Type 0
RunsArePlain = (p : PlainServer) (es : List Entry) (q : PlainServer) → Runs p es q ↔ PlainRun p es q

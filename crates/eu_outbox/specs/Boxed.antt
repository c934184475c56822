-- What contracts see of an outbox
use Rattle.std.specs.Prelude.{ℕ, List, refl}
use Rattle.std.specs.Coded.{Coded, code_by, coded×, coded_list, coded_ℕ}
use Rattle.eu_base.specs.declared.tasks.Task.{Task}
use Rattle.eu_base.specs.contracts.tasks.Task as task
use Rattle.eu_model.specs.declared.queues.Queue.{Queue}

-- its queue, and how many more tasks can be put without taking memory
pub record Boxed : Type 0 where
  pub queue : Queue
  pub room : ℕ

-- stored as both lists, and the room
abbrev pub coded_boxed : Coded Boxed
coded_boxed =
    code_by (List Task × (List Task × ℕ)) (coded× (coded_list task.the_row.coded) (coded× (coded_list task.the_row.coded) coded_ℕ))
    (λ b. (b.queue.waiting, (b.queue.flight, b.room)))
    (λ p. record { queue = record { waiting = p.0; flight = p.1.0 }; room = p.1.1 })
    (λ _. refl)

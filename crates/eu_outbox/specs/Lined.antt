-- What private contracts see of a line of tasks
use Rattle.std.specs.Prelude.{ℕ, List, refl}
use Rattle.std.specs.Coded.{Coded, code_by, coded×, coded_list, coded_ℕ}
use Rattle.eu_base.specs.declared.tasks.Task.{Task}
use Rattle.eu_base.specs.contracts.tasks.Task as task

-- its tasks, first to last, and how many more can be put without taking memory
pub record Lined : Type 0 where
  pub tasks : List Task
  pub room : ℕ

abbrev pub coded_lined : Coded Lined
coded_lined = code_by (List Task × ℕ) (coded× (coded_list task.the_row.coded) coded_ℕ) (λ l. (l.tasks, l.room)) (λ p. record { tasks = p.0; room = p.1 }) (λ _. refl)

use Rattle.std.proofs.Common.{◌≡◌, ◌++◌, drop, string_bytes}
use Rattle.eu_script.specs.Texts.{tasks_text}
use Rattle.eu_script.proofs.printing.print_tasks.Given as goal

-- what is printed, and what is left to print
abbrev pub invariant-loop-task : goal.invariant-loop-task
invariant-loop-task l = string_bytes l.out ++ tasks_text (drop l.task-index l.tasks) ≡ string_bytes l.fn.out ++ tasks_text l.tasks

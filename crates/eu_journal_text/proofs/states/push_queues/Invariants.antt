use Rattle.std.proofs.Common.{◌≡◌, ◌++◌, drop, string_bytes}
use Rattle.std.specs.List.{AllByRecursion}
use Rattle.eu_journal_text.specs.Text.{IsReadBack, queues_lines, lines_text}
use Rattle.eu_journal_text.proofs.states.push_queues.Given as goal

-- what is put, and what is left to put
abbrev pub invariant-loop-queue : goal.invariant-loop-queue
invariant-loop-queue l = record {
  text : string_bytes l.out ++ lines_text (queues_lines (drop l.queue-index l.queues)) ≡ string_bytes l.fn.out ++ lines_text (queues_lines l.queues);
  back : AllByRecursion IsReadBack (queues_lines (drop l.queue-index l.queues)) → AllByRecursion IsReadBack (queues_lines l.queues);
}

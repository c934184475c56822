use Rattle.std.proofs.Common.{◌≡◌, ◌++◌, drop, map, string_bytes}
use Rattle.std.specs.List.{AllByRecursion}
use Rattle.eu_journal.specs.declared.lines.JournalLine.TheVariants as line
use Rattle.eu_journal_text.specs.Text.{IsReadBack, lines_text}
use Rattle.eu_journal_text.proofs.entries.push_sent.Given as goal

-- what is put, and what is left to put
abbrev pub invariant-loop-task : goal.invariant-loop-task
invariant-loop-task l = record {
  text : string_bytes l.out ++ lines_text (map line.Sent (drop l.task-index l.tasks)) ≡ string_bytes l.fn.out ++ lines_text (map line.Sent l.tasks);
  back : AllByRecursion IsReadBack (map line.Sent (drop l.task-index l.tasks)) → AllByRecursion IsReadBack (map line.Sent l.tasks);
}

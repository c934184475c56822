use Rattle.std.proofs.Common.{◌≡◌, ◌++◌, drop, string_bytes}
use Rattle.std.specs.List.{AllByRecursion}
use Rattle.eu_journal_text.specs.Text.{IsReadBack, entries_lines, lines_text}
use Rattle.eu_journal_text.proofs.entries.push_entries.Given as goal

-- what is put, and what is left to put
abbrev pub invariant-loop-entry : goal.invariant-loop-entry
invariant-loop-entry l = record {
  text : string_bytes l.out ++ lines_text (entries_lines (drop l.entry-index l.entries)) ≡ string_bytes l.fn.out ++ lines_text (entries_lines l.entries);
  back : AllByRecursion IsReadBack (entries_lines (drop l.entry-index l.entries)) → AllByRecursion IsReadBack (entries_lines l.entries);
}

use Rattle.std.proofs.Common.{◌≡◌, ◌++◌, drop, map, string_bytes}
use Rattle.std.specs.List.{AllByRecursion}
use Rattle.eu_journal_text.specs.Text.{IsReadBack, lines_text, row_line}
use Rattle.eu_journal_text.proofs.states.push_rows.Given as goal

-- what is put, and what is left to put
abbrev pub invariant-loop-row : goal.invariant-loop-row
invariant-loop-row l = record {
  text : string_bytes l.out ++ lines_text (map row_line (drop l.row-index l.overrides)) ≡ string_bytes l.fn.out ++ lines_text (map row_line l.overrides);
  back : AllByRecursion IsReadBack (map row_line (drop l.row-index l.overrides)) → AllByRecursion IsReadBack (map row_line l.overrides);
}

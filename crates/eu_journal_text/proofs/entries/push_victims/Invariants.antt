use Rattle.std.proofs.Common.{◌≡◌, ◌++◌, drop, map, string_bytes}
use Rattle.std.specs.List.{AllByRecursion}
use Rattle.eu_journal.specs.declared.lines.JournalLine.TheVariants as line
use Rattle.eu_journal_text.specs.Text.{IsReadBack, lines_text}
use Rattle.eu_journal_text.proofs.entries.push_victims.Given as goal

-- what is put, and what is left to put
abbrev pub invariant-loop-key : goal.invariant-loop-key
invariant-loop-key l = record {
  text : string_bytes l.out ++ lines_text (map line.Victim (drop l.key-index l.victims)) ≡ string_bytes l.fn.out ++ lines_text (map line.Victim l.victims);
  back : AllByRecursion IsReadBack (map line.Victim (drop l.key-index l.victims)) → AllByRecursion IsReadBack (map line.Victim l.victims);
}

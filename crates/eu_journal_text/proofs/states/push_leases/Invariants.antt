use Rattle.std.proofs.Common.{◌≡◌, ◌++◌, drop, map, string_bytes}
use Rattle.std.specs.List.{AllByRecursion}
use Rattle.eu_journal.specs.declared.lines.JournalLine.TheVariants as line
use Rattle.eu_journal_text.specs.Text.{IsReadBack, lines_text}
use Rattle.eu_journal_text.proofs.states.push_leases.Given as goal

-- what is put, and what is left to put
abbrev pub invariant-loop-listed : goal.invariant-loop-listed
invariant-loop-listed l = record {
  text : string_bytes l.out ++ lines_text (map line.Lease (drop l.listed-index l.leases)) ≡ string_bytes l.fn.out ++ lines_text (map line.Lease l.leases);
  back : AllByRecursion IsReadBack (map line.Lease (drop l.listed-index l.leases)) → AllByRecursion IsReadBack (map line.Lease l.leases);
}

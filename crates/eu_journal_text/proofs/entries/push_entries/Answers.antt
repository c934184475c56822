use Rattle.std.proofs.Common.{refl}
use Rattle.std.specs.List.{AllByRecursion}
use Rattle.eu_journal_text.specs.Text.{IsReadBack, entries_lines, entry_lines}
use Rattle.eu_journal_text.proofs.PutLemmas.{all_next, put_next}
use Rattle.eu_journal_text.proofs.entries.push_entries.Goals as goal

pub loop-entry-preserved : goal.loop-entry-preserved
loop-entry-preserved c = record {
  text = put_next entry_lines entries_lines (λ y ys. refl) c.args.entries.now c.loop-entry.entry-index c.entry-item.result _ _ _ c.entry-item.is c.loop-entry-test.true c.loop-entry.invariant.text c.in_ok-push_entry.ensures.text;
  back = all_next entry_lines entries_lines (λ y ys. refl) IsReadBack (AllByRecursion IsReadBack (entries_lines c.args.entries.now)) c.args.entries.now c.loop-entry.entry-index c.entry-item.result c.entry-item.is c.loop-entry-test.true c.loop-entry.invariant.back c.in_ok-push_entry.ensures.back;
}

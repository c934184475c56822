use Rattle.std.proofs.Common.{refl}
use Rattle.serde_json.specs.Data.{null}
use Rattle.eu_journal.specs.declared.lines.JournalLine.TheVariants as line
use Rattle.eu_journal.proofs.WholeLemmas.{whole_of}
use Rattle.eu_journal.proofs.lines_write.head_value.Goals as goal

pub returns-clause-whole : goal.returns-clause-whole
returns-clause-whole c = whole_of (line.Head c.args.head) _ null c.in_ok-value.ensures refl refl

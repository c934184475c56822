use Rattle.eu_journal.specs.declared.lines.JournalLine.TheVariants as line
use Rattle.eu_journal.proofs.WholeLemmas.{whole_of}
use Rattle.eu_journal.proofs.lines_write.asked_value.Goals as goal

pub returns-clause-whole : goal.returns-clause-whole
returns-clause-whole c =
    let e = c.args.entry.now in
    whole_of (line.Asked e.pass e.number e.moment e.command) _ _ c.in_ok-value.ensures c.in_ok-rest.ensures.tree c.in_ok-rest.ensures.whole

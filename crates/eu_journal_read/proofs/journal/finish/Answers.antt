use Rattle.std.proofs.Common.{inr, refl}
use Rattle.eu_journal_read.proofs.EndLemmas.{ends_in, unsealed}
use Rattle.eu_journal_read.proofs.journal.finish.Goals as goal

pub returns-in_default : goal.returns-in_default
returns-in_default c = record { ok = tt; err = inr (refl, unsealed c.args.stage c.in_default.not-Sealed) }

pub returns-clause-ok : goal.returns-clause-ok
returns-clause-ok c = ends_in c.args.stage c.in-Sealed.front c.in-Sealed.end c.in_ok-journal.journal.base c.in_ok-journal.journal.entries.items c.in_ok-journal.journal.end c.in-Sealed.is c.in_ok-journal.ensures.0 c.in_ok-journal.ensures.1 c.in_ok-journal.ensures.2

use Rattle.std.proofs.Common.{ℕ, take, subst}
use Rattle.std.specs.Io.KnownBytes.{Appends}
use Rattle.eu_journal_text.specs.Text.{journal_text}
use Rattle.eu_server.proofs.Journals.{front}
use Rattle.eu_server.proofs.serve.write_closed.Goals as goal

pub returns-in-Ok-clause-front : goal.returns-in-Ok-clause-front
returns-in-Ok-clause-front g c failed =
    subst (λ entries. (k : ℕ) × Appends (g.J.Sink.contents c.args.journal.now) (g.J.Sink.contents c.flush.new.journal) (take k (journal_text c.args.closed.now.base entries c.args.closed.now.end)))
    c.as_slice-entries.ensures.value (front _ _ _ _ c.in-Ok.ensures.ok c.flush.ensures.kept)

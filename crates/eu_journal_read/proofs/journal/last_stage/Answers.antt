use Rattle.std.proofs.Common.{false, refl}
use Rattle.std.proofs.lemmas.Result.{err_from_is_err_and}
use Rattle.eu_lines.specs.Script.{place}
use Rattle.eu_journal_read.proofs.OutcomeLemmas.{came, came_short}
use Rattle.eu_journal_read.proofs.journal.last_stage.Goals as goal

pub returns-in_err-answer_lines-clause-came : goal.returns-in_err-answer_lines-clause-came
returns-in_err-answer_lines-clause-came g c =
    let p = err_from_is_err_and c.from_residual.result c.from_residual.ensures.1 in
    let a = c.in_err-answer_lines.ensures.answered in
    rw (p.1, p.2) (
      a.0,
      a.1,
      came_short (place c.new-lines.result tt) c.new-lines.ensures.stage c.new-lines.ensures.told c.limits.result c.limits.ensures (place c.answer_lines.new.desk c.answer_lines.new.context)
          (record { read = a.0; left = g.R.Source.remaining c.answer_lines.new.reader; reader_failed = g.R.Source.failed c.answer_lines.new.reader; writer_failed = false }) c.in_err-answer_lines.field-0.0 a.2.0 refl a.2.2,
    )

pub returns-in_err-answer_lines-clause-told : goal.returns-in_err-answer_lines-clause-told
returns-in_err-answer_lines-clause-told g c =
    let p = err_from_is_err_and c.from_residual.result c.from_residual.ensures.1 in
    rw (p.1, p.2) (c.in_err-answer_lines.ensures.told_reader)

pub returns-clause-came : goal.returns-clause-came
returns-clause-came g c =
    let a = c.in_ok-answer_lines.ensures.answered in (
      a.0,
      a.1,
      came (place c.new-lines.result tt) c.new-lines.ensures.stage c.new-lines.ensures.told c.limits.result c.limits.ensures (place c.answer_lines.new.desk c.answer_lines.new.context)
          (record { read = a.0; left = g.R.Source.remaining c.answer_lines.new.reader; reader_failed = g.R.Source.failed c.answer_lines.new.reader; writer_failed = false }) a.2.0 a.2.2,
    )

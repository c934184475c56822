use Rattle.std.proofs.Common.{Err}
use Rattle.std.proofs.lemmas.Result.{err_from_is_err_and}
use Rattle.eu_lines.specs.Script.{place}
use Rattle.eu_script.proofs.Scripts.{leaves, runs}
use Rattle.eu_script.proofs.script.answer_whole.Goals as goal

pub returns-in_err-answer_lines-clause-leaves : goal.returns-in_err-answer_lines-clause-leaves
returns-in_err-answer_lines-clause-leaves g c =
    let p = err_from_is_err_and c.from_residual.result c.from_residual.ensures.1 in
    let a = c.in_err-answer_lines.ensures.answered in
    rw (p.1, p.2) (
      a.0,
      a.1,
      (
        a.2.0,
        a.2.1,
        runs c.args.config g.C.Chooser.asks c.of_scripts-limits.result c.of_scripts-limits.ensures (place c.new-desk.result c.args.chooser.now) (place c.answer_lines.new.desk c.answer_lines.new.context)
            (record { read = a.0; left = g.R.Source.remaining c.answer_lines.new.reader; reader_failed = g.R.Source.failed c.answer_lines.new.reader; writer_failed = g.W.Sink.failed c.answer_lines.new.writer }) (Err c.in_err-answer_lines.field-0.0) a.2.0 c.new-desk.ensures.config c.new-desk.ensures.book a.2.2,
      ),
    )

pub returns-clause-leaves : goal.returns-clause-leaves
returns-clause-leaves g c =
    let a = c.in_ok-answer_lines.ensures.answered in (
      a.0,
      a.1,
      (
        a.2.0,
        a.2.1,
        leaves c.args.config g.C.Chooser.asks c.of_scripts-limits.result c.of_scripts-limits.ensures (place c.new-desk.result c.args.chooser.now) (place c.answer_lines.new.desk c.answer_lines.new.context)
            (record { read = a.0; left = g.R.Source.remaining c.answer_lines.new.reader; reader_failed = g.R.Source.failed c.answer_lines.new.reader; writer_failed = g.W.Sink.failed c.answer_lines.new.writer }) a.2.0 c.new-desk.ensures.config c.new-desk.ensures.book a.2.2,
      ),
    )

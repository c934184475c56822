use Rattle.std.proofs.lemmas.Result.{err_from_is_err_and}
use Rattle.eu_script.proofs.Scripts.{left_so}
use Rattle.eu_script.proofs.script.answer_script.Goals as goal

pub returns-in_err-desk-clause-runs : goal.returns-in_err-desk-clause-runs
returns-in_err-desk-clause-runs g c =
    let p = err_from_is_err_and c.from_residual.result c.from_residual.ensures.1 in
    rw (p.1, p.2) c.in_err-desk.ensures.leaves

pub returns-clause-runs : goal.returns-clause-runs
returns-clause-runs g c =
    let a = c.in_ok-desk.ensures.leaves in (
      a.0,
      a.1,
      (
        a.2.0,
        a.2.1,
        left_so c.args.config g.C.Chooser.asks c.in_ok-desk.desk c.args.chooser.now c.answer_whole.new.chooser
            (record { read = a.0; left = g.R.Source.remaining c.answer_whole.new.reader; reader_failed = g.R.Source.failed c.answer_whole.new.reader; writer_failed = g.W.Sink.failed c.answer_whole.new.writer }) a.2.0 a.2.2,
      ),
    )

use Rattle.std.proofs.Common.{[]}
use Rattle.std.proofs.KnownBytes.{Appends-nil}
use Rattle.std.proofs.lemmas.Result.{err_from_is_err_and}
use Rattle.eu_script.proofs.Audits.{faulted, unjudged, told, untold}
use Rattle.eu_script.proofs.auditing.answer_audit.Goals as goal

pub returns-in_err-desk-clause-runs : goal.returns-in_err-desk-clause-runs
returns-in_err-desk-clause-runs g c =
    let p = err_from_is_err_and c.from_residual.result c.from_residual.ensures.1 in
    let a = c.in_err-desk.ensures.leaves in
    rw (p.1, p.2) (
      a.0,
      a.1,
      (
        [],
        Appends-nil _,
        faulted c.args.config g.C.Chooser.asks c.args.chooser.now _
            (record { read = a.0; left = g.R.Source.remaining c.answer_whole.new.reader; reader_failed = g.R.Source.failed c.answer_whole.new.reader; writer_failed = g.W.Sink.failed c.args.writer.now }) a.2.0 _ a.2.2,
      ),
    )

pub returns-in_err-verdict-clause-runs : goal.returns-in_err-verdict-clause-runs
returns-in_err-verdict-clause-runs g c =
    let p = err_from_is_err_and c.from_residual-in_err-verdict.result c.from_residual-in_err-verdict.ensures.1 in
    let a = c.in_ok-desk.ensures.leaves in
    rw (p.1, p.2) (
      a.0,
      a.1,
      (
        [],
        Appends-nil _,
        unjudged c.args.config g.C.Chooser.asks c.args.chooser.now _
            (record { read = a.0; left = g.R.Source.remaining c.answer_whole.new.reader; reader_failed = g.R.Source.failed c.answer_whole.new.reader; writer_failed = g.W.Sink.failed c.args.writer.now }) a.2.0 c.in_ok-desk.desk a.2.2,
      ),
    )

pub returns-in_err-tell_verdict-clause-runs : goal.returns-in_err-tell_verdict-clause-runs
returns-in_err-tell_verdict-clause-runs g c =
    let p = err_from_is_err_and c.from_residual-in_err-tell_verdict.result c.from_residual-in_err-tell_verdict.ensures.1 in
    let a = c.in_ok-desk.ensures.leaves in
    let t = c.in_err-tell_verdict.ensures.told in
    rw (p.1, p.2) (
      a.0,
      a.1,
      (
        t.0,
        t.1,
        untold c.args.config g.C.Chooser.asks c.args.chooser.now _
            (record { read = a.0; left = g.R.Source.remaining c.answer_whole.new.reader; reader_failed = g.R.Source.failed c.answer_whole.new.reader; writer_failed = g.W.Sink.failed c.tell_verdict.new.writer }) a.2.0 c.in_ok-desk.desk a.2.2 c.in_ok-verdict.verdict.is_run c.in_ok-verdict.verdict.entries c.in_ok-verdict.ensures _ t.0 t.2,
      ),
    )

pub returns-in_err-tell_verdict-clause-told_writer : goal.returns-in_err-tell_verdict-clause-told_writer
returns-in_err-tell_verdict-clause-told_writer g c =
    let p = err_from_is_err_and c.from_residual-in_err-tell_verdict.result c.from_residual-in_err-tell_verdict.ensures.1 in
    rw (p.1, p.2) c.in_err-tell_verdict.ensures.told_writer

pub returns-clause-runs : goal.returns-clause-runs
returns-clause-runs g c =
    let a = c.in_ok-desk.ensures.leaves in
    let t = c.in_ok-tell_verdict.ensures.told in (
      a.0,
      a.1,
      (
        t.0,
        t.1,
        told c.args.config g.C.Chooser.asks c.args.chooser.now _
            (record { read = a.0; left = g.R.Source.remaining c.answer_whole.new.reader; reader_failed = g.R.Source.failed c.answer_whole.new.reader; writer_failed = g.W.Sink.failed c.tell_verdict.new.writer }) a.2.0 c.in_ok-desk.desk a.2.2 c.in_ok-verdict.verdict.is_run c.in_ok-verdict.verdict.entries c.in_ok-verdict.ensures t.0 t.2,
      ),
    )

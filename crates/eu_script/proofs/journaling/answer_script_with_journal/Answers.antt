use Rattle.std.proofs.Common.{◌≢◌, []}
use Rattle.std.proofs.KnownBytes.{Appends-nil}
use Rattle.std.proofs.lemmas.Result.{err_from_is_err_and}
use Rattle.eu_book.proofs.PeerLemmas.{always}
use Rattle.eu_lines.specs.declared.faults.ScriptFault.TheVariants.{Read, Write}
use Rattle.eu_script.proofs.Texts.{beside, stopped, left_text}
use Rattle.eu_script.proofs.journaling.answer_script_with_journal.Goals as goal

pub returns-in_err-desk-clause-runs : goal.returns-in_err-desk-clause-runs
returns-in_err-desk-clause-runs g c =
    let p = err_from_is_err_and c.from_residual.result c.from_residual.ensures.1 in
    let a = c.in_err-desk.ensures.leaves in
    rw (p.1, p.2) (
      a.0,
      a.1,
      (
        a.2.0,
        a.2.1,
        (
          [],
          Appends-nil _,
          stopped c.args.config g.C.Chooser.asks c.args.chooser.now _
              (record { read = a.0; left = g.R.Source.remaining c.answer_whole.new.reader; reader_failed = g.R.Source.failed c.answer_whole.new.reader; writer_failed = g.W.Sink.failed c.answer_whole.new.writer }) a.2.0 _ _ a.2.2,
        ),
      ),
    )

pub returns-clause-runs : goal.returns-clause-runs
returns-clause-runs g c =
    let a = c.in_ok-desk.ensures.leaves in
    let t = c.leave_journal.ensures.wrote in (
      a.0,
      a.1,
      (
        a.2.0,
        a.2.1,
        (
          t.0,
          t.1,
          left_text c.args.config g.C.Chooser.asks c.args.chooser.now _
              (record { read = a.0; left = g.R.Source.remaining c.answer_whole.new.reader; reader_failed = g.R.Source.failed c.answer_whole.new.reader; writer_failed = g.W.Sink.failed c.answer_whole.new.writer }) a.2.0 _ c.in_ok-desk.desk _ t.0 a.2.2 t.2,
        ),
      ),
    )

pub returns-clause-sound_reader : goal.returns-clause-sound_reader
returns-clause-sound_reader g c = always c.leave_journal.result c.in_ok-desk.ensures.sound_reader

pub returns-clause-sound_writer : goal.returns-clause-sound_writer
returns-clause-sound_writer g c = always c.leave_journal.result c.in_ok-desk.ensures.sound_writer

pub returns-clause-told_reader : goal.returns-clause-told_reader
returns-clause-told_reader g c = beside c.leave_journal.result (λ fault. fault ≢ Read) c.in_ok-desk.ensures.sound_reader

pub returns-clause-told_writer : goal.returns-clause-told_writer
returns-clause-told_writer g c = beside c.leave_journal.result (λ fault. fault ≢ Write) c.in_ok-desk.ensures.sound_writer

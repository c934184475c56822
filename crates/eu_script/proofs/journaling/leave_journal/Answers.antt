use Rattle.std.proofs.Common.{◌∙◌, length, sym}
use Rattle.std.proofs.KnownBytes.{Appends-kept}
use Rattle.std.proofs.Math.Seq.{take-length}
use Rattle.std.proofs.lemmas.Result.{err_from_is_err_and}
use Rattle.eu_script.specs.ScriptDesk.{text_of}
use Rattle.eu_script.proofs.journaling.leave_journal.Goals as goal

pub returns-in_err-flush-clause-wrote : goal.returns-in_err-flush-clause-wrote
returns-in_err-flush-clause-wrote g c =
    let p = err_from_is_err_and c.from_residual-in_err-flush.result c.from_residual-in_err-flush.ensures.1 in
    let w = c.in_ok-write_journal.ensures.wrote in
    let text = text_of c.args.desk.now.book in
    rw (p.1, p.2) (w.0, Appends-kept _ _ _ w.0 w.1 c.in_err-flush.ensures.kept, (c.in_err-flush.ensures.failed, length text, w.2 ∙ sym (take-length text)))

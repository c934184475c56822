use Rattle.std.proofs.Common.{◌↔◌, IsTrue, List, ap, length, subst}
use Rattle.std.proofs.lemmas.Result.{err_from_is_err_and}
use Rattle.eu_audit.specs.PlainForm.{IsRun}
use Rattle.eu_journal_audit.proofs.FaultLemmas.{carried, not_read, other_read}
use Rattle.eu_journal_audit.proofs.auditing.judge_journal.Goals as goal
use Rattle.eu_model.specs.declared.commands.Entry.{Entry}

pub returns-clause-judged : goal.returns-clause-judged
returns-clause-judged g c =
    let says = c.in_ok-journal.ensures.ok in
    let same = c.as_slice-entries.ensures.value in
    let journal = c.in_ok-journal.journal in
    let judged = subst (λ (es : List Entry). IsTrue c.in_ok-is_run.is_run ↔ IsRun journal.base es journal.end) same c.in_ok-is_run.ensures in
    (says.0, says.1, says.2, (journal.base, journal.entries.items, journal.end, says.3, ap length same, judged))

pub returns-in_err-is_run-clause-judged : goal.returns-in_err-is_run-clause-judged
returns-in_err-is_run-clause-judged g c =
    let p = err_from_is_err_and c.from_residual-in_err-is_run.result c.from_residual-in_err-is_run.ensures.1 in
    rw (p.1, p.2) tt

pub returns-in_err-journal-clause-judged : goal.returns-in_err-journal-clause-judged
returns-in_err-journal-clause-judged g c =
    let p = err_from_is_err_and c.from_residual.result c.from_residual.ensures.1 in
    rw (p.1, p.2) (not_read _ _ _ c.in_err-journal.field-0.0 c.in_err-journal.ensures.bad_line c.in_err-journal.ensures.early c.in_err-journal.ensures.read)

pub returns-in_err-journal-clause-refused : goal.returns-in_err-journal-clause-refused
returns-in_err-journal-clause-refused g c =
    let p = err_from_is_err_and c.from_residual.result c.from_residual.ensures.1 in
    rw (p.1, p.2) (λ text base entries end is says. carried c.in_err-journal.field-0.0 _ (c.in_err-journal.ensures.refused text base entries end is says))

pub returns-in_err-journal-clause-told : goal.returns-in_err-journal-clause-told
returns-in_err-journal-clause-told g c =
    let p = err_from_is_err_and c.from_residual.result c.from_residual.ensures.1 in
    rw (p.1, p.2) (λ other. c.in_err-journal.ensures.told (other_read c.in_err-journal.field-0.0 other))

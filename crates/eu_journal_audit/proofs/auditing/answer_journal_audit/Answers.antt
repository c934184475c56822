use Rattle.std.proofs.Common.{[], false}
use Rattle.std.proofs.KnownBytes.{Appends-nil}
use Rattle.std.proofs.lemmas.Result.{err_from_is_err_and}
use Rattle.eu_journal_audit.proofs.FaultLemmas.{line_reason, no_reason, other_write, told, told_short, untold}
use Rattle.eu_journal_audit.proofs.auditing.answer_journal_audit.Goals as goal

pub returns-in_err-verdict-clause-audited : goal.returns-in_err-verdict-clause-audited
returns-in_err-verdict-clause-audited g c =
    let p = err_from_is_err_and c.from_residual.result c.from_residual.ensures.1 in
    rw (p.1, p.2) ([], Appends-nil _, untold _ _ _ _ c.in_err-verdict.field-0.0 c.in_err-verdict.ensures.judged)

pub returns-in_err-verdict-clause-refused : goal.returns-in_err-verdict-clause-refused
returns-in_err-verdict-clause-refused g c =
    let p = err_from_is_err_and c.from_residual.result c.from_residual.ensures.1 in
    rw (p.1, p.2) (λ text base entries end is says. no_reason c.in_err-verdict.field-0.0 _ _ (c.in_err-verdict.ensures.refused text base entries end is says))

pub returns-in_err-verdict-clause-told_reader : goal.returns-in_err-verdict-clause-told_reader
returns-in_err-verdict-clause-told_reader g c =
    let p = err_from_is_err_and c.from_residual.result c.from_residual.ensures.1 in
    rw (p.1, p.2) c.in_err-verdict.ensures.told

pub returns-in_err-tell_verdict-clause-audited : goal.returns-in_err-tell_verdict-clause-audited
returns-in_err-tell_verdict-clause-audited g c =
    let p = err_from_is_err_and c.from_residual-in_err-tell_verdict.result c.from_residual-in_err-tell_verdict.ensures.1 in
    let t = c.in_err-tell_verdict.ensures.told in
    rw (p.1, p.2) (t.0, t.1, told_short _ _ _ _ c.in_ok-verdict.verdict c.in_ok-verdict.ensures.judged c.in_err-tell_verdict.field-0.0 t.0 t.2)

pub returns-in_err-tell_verdict-clause-refused : goal.returns-in_err-tell_verdict-clause-refused
returns-in_err-tell_verdict-clause-refused g c =
    let p = err_from_is_err_and c.from_residual-in_err-tell_verdict.result c.from_residual-in_err-tell_verdict.ensures.1 in
    let t = c.in_err-tell_verdict.ensures.told in
    rw (p.1, p.2) (λ text base entries end is says. line_reason _ t.0 c.in_err-tell_verdict.field-0.0 _ _ t.2)

pub returns-in_err-tell_verdict-clause-told_writer : goal.returns-in_err-tell_verdict-clause-told_writer
returns-in_err-tell_verdict-clause-told_writer g c =
    let p = err_from_is_err_and c.from_residual-in_err-tell_verdict.result c.from_residual-in_err-tell_verdict.ensures.1 in
    rw (p.1, p.2) (λ other. c.in_err-tell_verdict.ensures.told_writer (other_write c.in_err-tell_verdict.field-0.0 other))

pub returns-clause-audited : goal.returns-clause-audited
returns-clause-audited g c =
    let t = c.in_ok-tell_verdict.ensures.told in
    (t.0, t.1, told _ _ false false c.in_ok-verdict.verdict c.in_ok-verdict.ensures.judged t.0 t.2)

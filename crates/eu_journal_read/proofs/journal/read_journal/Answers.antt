use Rattle.std.proofs.lemmas.Result.{err_from_is_err_and}
use Rattle.eu_journal_read.specs.Faults.{fault_of}
use Rattle.eu_journal_read.specs.declared.faults.JournalFault.TheVariants as fault
use Rattle.eu_journal_read.proofs.EndLemmas.{ends_before, no_line, no_read, no_refusal, whole}
use Rattle.eu_journal_read.proofs.OutcomeLemmas.{goes_on, line_told, no_fault, other_fault, read_told, told_of}
use Rattle.eu_journal_read.proofs.journal.read_journal.Goals as goal

pub returns-in_err-stage-clause-refused : goal.returns-in_err-stage-clause-refused
returns-in_err-stage-clause-refused g c =
    let p = err_from_is_err_and c.from_residual.result c.from_residual.ensures.1 in
    let a = c.in_err-stage.ensures.came in
    rw (p.1, p.2) (λ text base entries end is says. no_fault text base entries end says _ _ a.0 c.in_err-stage.field-0.0 (rw is at a.1) a.2)

pub returns-in_err-stage-clause-bad_line : goal.returns-in_err-stage-clause-bad_line
returns-in_err-stage-clause-bad_line g c =
    let p = err_from_is_err_and c.from_residual.result c.from_residual.ensures.1 in
    let a = c.in_err-stage.ensures.came in
    λ n is. line_told _ _ _ a.0 c.in_err-stage.field-0.0 n a.1 a.2 (told_of c.from_residual.result p.0 (fault.BadLine n) (fault_of c.in_err-stage.field-0.0) p.1 p.2 is)

pub returns-in_err-stage-clause-early : goal.returns-in_err-stage-clause-early
returns-in_err-stage-clause-early g c =
    let p = err_from_is_err_and c.from_residual.result c.from_residual.ensures.1 in
    λ is. absurd (goes_on c.in_err-stage.field-0.0 (told_of c.from_residual.result p.0 fault.EndsEarly (fault_of c.in_err-stage.field-0.0) p.1 p.2 is))

pub returns-in_err-stage-clause-read : goal.returns-in_err-stage-clause-read
returns-in_err-stage-clause-read g c =
    let p = err_from_is_err_and c.from_residual.result c.from_residual.ensures.1 in
    let a = c.in_err-stage.ensures.came in
    λ is. read_told _ _ _ a.0 c.in_err-stage.field-0.0 a.1 a.2 (told_of c.from_residual.result p.0 fault.Read (fault_of c.in_err-stage.field-0.0) p.1 p.2 is)

pub returns-in_err-stage-clause-told : goal.returns-in_err-stage-clause-told
returns-in_err-stage-clause-told g c =
    let p = err_from_is_err_and c.from_residual.result c.from_residual.ensures.1 in
    rw (p.1, p.2) (λ other. c.in_err-stage.ensures.told (other_fault c.in_err-stage.field-0.0 other))

pub returns-clause-ok : goal.returns-clause-ok
returns-clause-ok g c = let a = c.in_ok-stage.ensures.came in whole _ _ _ a.0 c.in_ok-stage.stage a.1 a.2 c.finish.result c.finish.ensures.ok

pub returns-clause-refused : goal.returns-clause-refused
returns-clause-refused g c = let a = c.in_ok-stage.ensures.came in no_refusal _ _ _ a.0 c.in_ok-stage.stage a.1 a.2 c.finish.result c.finish.ensures.err

pub returns-clause-bad_line : goal.returns-clause-bad_line
returns-clause-bad_line g c = λ n is. absurd (no_line c.in_ok-stage.stage c.finish.result n c.finish.ensures.err is)

pub returns-clause-early : goal.returns-clause-early
returns-clause-early g c = let a = c.in_ok-stage.ensures.came in λ is. ends_before _ _ _ a.0 c.in_ok-stage.stage a.1 a.2 c.finish.result c.finish.ensures.err is

pub returns-clause-read : goal.returns-clause-read
returns-clause-read g c = λ is. absurd (no_read c.in_ok-stage.stage c.finish.result c.finish.ensures.err is)

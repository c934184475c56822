use Rattle.std.proofs.Common.{◌∙◌, Err, ap, sym}
use Rattle.std.proofs.lemmas.Result.{err_from_is_err_and}
use Rattle.eu_journal_values.specs.declared.faults.LineFault.TheVariants.{NotALine}
use Rattle.eu_journal_read.proofs.ReaderLemmas.{refused_line, same_fault, unfit_line}
use Rattle.eu_journal_read.proofs.reader.JournalReader.take.Goals as goal

pub returns-in_err-check_digest-clause-refused : goal.returns-in_err-check_digest-clause-refused
returns-in_err-check_digest-clause-refused c =
    let p = err_from_is_err_and c.from_residual-in_err-check_digest.result c.from_residual-in_err-check_digest.ensures.1 in
    λ is prefix holds. unfit_line prefix c.args.text.now c.args.self.now.stage c.in_ok-line.line c.in_ok-line.ensures.ok
    (c.in_err-check_digest.ensures.none (ap Err (sym p.2 ∙ same_fault c.from_residual-in_err-check_digest.result p.0 NotALine p.1 is)) prefix holds)

pub returns-in_err-step-clause-refused : goal.returns-in_err-step-clause-refused
returns-in_err-step-clause-refused c =
    let p = err_from_is_err_and c.from_residual-in_err-step.result c.from_residual-in_err-step.ensures.1 in
    λ is prefix holds. refused_line prefix c.args.text.now c.args.self.now.stage c.in_ok-line.line c.in_err-step.field-0.0 c.in_ok-line.ensures.ok c.in_err-step.ensures (sym p.2 ∙ same_fault c.from_residual-in_err-step.result p.0 NotALine p.1 is)

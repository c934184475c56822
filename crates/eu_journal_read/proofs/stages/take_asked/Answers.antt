use Rattle.std.proofs.Common.{Ok}
use Rattle.std.proofs.lemmas.Result.{err_from_is_err_and}
use Rattle.eu_journal_read.specs.Front.{Front}
use Rattle.eu_journal_read.specs.Stages.{closed}
use Rattle.eu_journal_read.specs.declared.stages.Stage.TheVariants as stage
use Rattle.eu_journal_read.proofs.RunLemmas.{faulted_by}
use Rattle.eu_journal_read.proofs.stages.take_asked.Goals as goal

pub returns-in_err-front : goal.returns-in_err-front
returns-in_err-front c =
    let p = err_from_is_err_and c.from_residual.result c.from_residual.ensures.1 in
    rw (p.1, p.2) (faulted_by (closed c.args.stage) (λ (f : Front). Ok (stage.Asked f c.args.asked)) c.in_err-front.field-0.0 c.in_err-front.ensures)

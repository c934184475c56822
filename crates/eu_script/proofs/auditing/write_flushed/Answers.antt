use Rattle.eu_script.proofs.Audits.{flushed}
use Rattle.eu_script.proofs.auditing.write_flushed.Goals as goal

pub returns-clause-err : goal.returns-clause-err
returns-clause-err g c = flushed _ _ _ c.args.text.now c.flush.result c.in_ok-write_whole.ensures.ok c.flush.ensures.kept

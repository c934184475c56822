use Rattle.eu_audit.proofs.RunLemmas as run
use Rattle.eu_audit.proofs.law.runs_are_plain.Goals as goal

pub returns : goal.returns
returns c = run.runs_are_plain

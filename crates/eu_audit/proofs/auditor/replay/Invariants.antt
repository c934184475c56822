use Rattle.std.proofs.Common.{◌↔◌, drop}
use Rattle.eu_model.specs.Server.{PlainServer}
use Rattle.eu_audit.specs.PlainRuns.{PlainRun}
use Rattle.eu_audit.proofs.auditor.replay.Given as goal

-- what is left leads where the whole does
abbrev pub invariant-loop-entry : goal.invariant-loop-entry
invariant-loop-entry l = record {
  whole : (end : PlainServer) → PlainRun l.replica (drop l.entry-index l.entries) end ↔ PlainRun l.fn.server l.fn.entries end;
}

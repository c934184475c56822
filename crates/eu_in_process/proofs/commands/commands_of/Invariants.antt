use Rattle.std.proofs.Common.{◌≡◌, map, take}
use Rattle.eu_json.specs.BatchLaw.{asked_by}
use Rattle.eu_in_process.proofs.commands.commands_of.Given as goal

abbrev pub invariant-loop-task : goal.invariant-loop-task
invariant-loop-task l = l.commands.items ≡ map asked_by (take l.task-index l.batch)

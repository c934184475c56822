use Rattle.std.proofs.Common.{◌≡◌, map, take}
use Rattle.serde_json.specs.View.{view}
use Rattle.eu_journal_values.specs.Trees.{whole_number}
use Rattle.eu_journal_values.proofs.commands.code_values.Given as goal

abbrev pub invariant-loop-code : goal.invariant-loop-code
invariant-loop-code l = record {
  trees : map view l.values.items ≡ map whole_number (take l.code-index l.codes);
}

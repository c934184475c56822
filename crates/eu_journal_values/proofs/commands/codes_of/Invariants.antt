use Rattle.std.proofs.Common.{◌≡◌, drop}
use Rattle.serde_json.specs.View.{items_view}
use Rattle.eu_journal_values.specs.Commands.{codes_of}
use Rattle.eu_journal_values.proofs.CodeLemmas.{onto}
use Rattle.eu_journal_values.proofs.commands.codes_of.Given as goal

-- what was read, and what is left, make the whole
abbrev pub invariant-loop-value : goal.invariant-loop-value
invariant-loop-value l = onto l.codes.items (codes_of (items_view (drop l.value-index l.values.items))) ≡ codes_of (items_view l.values.items)

use Rattle.std.proofs.Common.{rules}
use Rattle.std.proofs.lemmas.List.Sorted.{IsNonDecreasingBy-from_sort_by_key, IsPermutation-map}
use Rattle.eu_settle.specs.declared.closed.PassLog.{PassLog}
use Rattle.eu_shared.specs.Closing.{logged_by}
use Rattle.eu_shared.proofs.closing.sort.Goals as goal

pub returns-clause-ascending : goal.returns-clause-ascending
returns-clause-ascending c = IsNonDecreasingBy-from_sort_by_key (λ (l : PassLog). l.pass) _ c.sort_unstable_by_key.ensures.sorted (λ a r q k. search rules)

pub returns-clause-logs : goal.returns-clause-logs
returns-clause-logs c = IsPermutation-map logged_by _ _ (search rules)

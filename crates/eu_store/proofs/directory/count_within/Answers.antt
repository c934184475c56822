use Rattle.std.proofs.Common.{rules}
use Rattle.std.proofs.lemmas.List.Sorted.{IsPartitionPoint-from_clause}
use Rattle.eu_store.specs.Limit.{within}
use Rattle.eu_store.specs.Order.{at_place}
use Rattle.eu_store.proofs.PlaceLemmas.{point_len}
use Rattle.eu_store.proofs.directory.count_within.Goals as goal

pub returns-clause-value : goal.returns-clause-value
returns-clause-value c =
    let t = at_place (within c.args.limit) c.args.table.now.entries in
    point_len t c.args.places.now c.partition_point.result c.partition_point.ensures.bound (IsPartitionPoint-from_clause t _ _ c.partition_point.ensures.partitioned c.requires (λ a r f g. search rules))

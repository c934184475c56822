use Rattle.std.proofs.Common.{◌≡◌, ◌++◌}
use Rattle.std.specs.Iterator.Adapters.{zip_first, zip_second}
use Rattle.std.specs.Slice.Iter.{iter_rest}
use Rattle.eu_peer.specs.Turns.{all_newer}
use Rattle.eu_peer.proofs.turn.all_newer.Given as goal

abbrev pub invariant-loop-task : goal.invariant-loop-task
invariant-loop-task l =
    l.instances.items ++ all_newer (iter_rest (zip_first l.task-iterator)) (zip_second l.task-iterator).rest.items ≡ all_newer l.fn.tasks l.fn.answers.items

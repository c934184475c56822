use Rattle.std.proofs.Common.{◌≤◌, ◌+◌, vec_len}
use Rattle.std.specs.Vec.{vec_capacity}
use Rattle.std.specs.Vec.Iter.{into_iter_len}
use Rattle.eu_server.proofs.serve.gather.Given as goal

-- there is room for the passes of those that are left
abbrev pub invariant-loop-worker : goal.invariant-loop-worker
invariant-loop-worker g l =
    (goal.iterator-loop-worker g).can_next l.worker-iterator
    × (goal.iterator-loop-worker g).is_finite l.worker-iterator
    × (vec_len l.passes + into_iter_len l.worker-iterator ≤ vec_capacity l.passes)

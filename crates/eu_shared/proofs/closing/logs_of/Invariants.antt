use Rattle.std.proofs.Common.{◌≡◌, ◌≤◌, ◌+◌, map, vec_len}
use Rattle.std.specs.Vec.{vec_capacity}
use Rattle.std.specs.Vec.Iter.{into_iter_len}
use Rattle.eu_shared.specs.Closing.{log_of, logged_by}
use Rattle.eu_shared.proofs.closing.logs_of.Given as goal

abbrev pub invariant-loop-pass : goal.invariant-loop-pass
invariant-loop-pass g l =
    (goal.iterator-loop-pass g).can_next l.pass-iterator
    × (goal.iterator-loop-pass g).is_finite l.pass-iterator
    × (map logged_by l.logs.items ≡ map log_of l.yielded)
    × (vec_len l.logs + into_iter_len l.pass-iterator ≤ vec_capacity l.logs)

use Rattle.std.proofs.Common.{◌≡◌, ◌+◌, vec_len}
use Rattle.std.specs.Vec.Iter.{into_iter_len}
use Rattle.eu_server.proofs.serve.add_loops.Given as goal

-- one for each poll that is gone
abbrev pub invariant-loop-poll : goal.invariant-loop-poll
invariant-loop-poll g l =
    (goal.iterator-loop-poll g).can_next l.poll-iterator
    × (goal.iterator-loop-poll g).is_finite l.poll-iterator
    × (vec_len l.stations + into_iter_len l.poll-iterator ≡ vec_len l.fn.stations + vec_len l.fn.polls)

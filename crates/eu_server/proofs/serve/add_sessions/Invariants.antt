use Rattle.std.proofs.Common.{◌≡◌, ◌+◌, ◌++◌, ℕ, vec_len}
use Rattle.std.specs.Vec.Iter.{into_iter_len}
use Rattle.eu_server.specs.Staff.{AreSessions}
use Rattle.eu_server.proofs.serve.add_sessions.Given as goal

-- so many so far, and one for each station that is left
abbrev pub invariant-loop-source : goal.invariant-loop-source
invariant-loop-source g l =
    (goal.iterator-loop-source g).can_next l.source-iterator
    × (goal.iterator-loop-source g).is_finite l.source-iterator
    × ((count : ℕ) × (count + into_iter_len l.source-iterator ≡ vec_len l.fn.stations)
    × (sessions : _) × AreSessions count sessions × (l.workers.items ≡ l.fn.workers.items ++ sessions))

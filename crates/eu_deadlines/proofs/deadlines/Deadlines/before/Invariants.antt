use Rattle.std.proofs.Common.{◌≡◌, ℕ, ◌<◌, ◌≤◌, get_or}
use Rattle.eu_deadlines.proofs.deadlines.Deadlines.before.Given as goal

-- the places so far have become their positions
abbrev pub invariant-loop-place : goal.invariant-loop-place
invariant-loop-place l = record {
  done : (j : ℕ) → j < l.place-index → get_or l.place-items j 0 ≡ get_or l.self-inside.positions.items (get_or l.initial.place-items j 0) 0;
  ahead : (j : ℕ) → l.place-index ≤ j → get_or l.place-items j 0 ≡ get_or l.initial.place-items j 0;
}

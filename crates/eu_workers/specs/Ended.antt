-- What a worker counts
use Rattle.std.specs.Prelude.{◌≡◌, ℕ, ◌+◌, ◌≤◌, Bool, if◌then◌else◌}
use Rattle.eu_workers.specs.declared.ended.Ended.{Ended}

-- one more turn, which was refused or wasn't
abbrev pub Counts : Ended → Bool → Ended → Type 0
Counts e refused f = (f.turns ≡ e.turns + 1) × (f.refused ≡ (if refused then e.refused + 1 else e.refused))

-- there were at most so many turns, and no more were refused
abbrev pub IsWithin : ℕ → Ended → Type 0
IsWithin limit e = (e.refused ≤ e.turns) × (e.turns ≤ limit)

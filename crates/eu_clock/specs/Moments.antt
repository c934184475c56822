-- What a clock over a list tells
use Rattle.std.specs.Prelude.{ℕ, List, [], ◌∷◌}

-- the next moment of a list, and the moments that are left; the last one stays, and an empty list has 0
abbrev pub next_moment : List ℕ → ℕ × List ℕ
next_moment [] = (0, [])
next_moment (m ∷ []) = (m, m ∷ [])
next_moment (m ∷ n ∷ ms) = (m, n ∷ ms)

-- What the choosers answer
use Rattle.std.specs.Prelude.{ℕ, ◌%◌, List, [], ◌∷◌}
use Rattle.rand_pcg.specs.Lcg.{Lcg}
use Rattle.rand_pcg.specs.Pcg.{pcg32}

-- the next word of a list modulo n, and 0 once the list is used up
abbrev pub next_listed : List ℕ → ℕ → ℕ × List ℕ
next_listed [] n = (0, [])
next_listed (w ∷ ws) n = (w % n, ws)

-- the next word of the generator modulo n
abbrev pub next_drawn : Lcg → ℕ → ℕ × Lcg
next_drawn g n = let w = pcg32 g in (w.0 % n, w.1)

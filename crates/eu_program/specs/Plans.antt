-- What a server is asked to do
use Rattle.std.specs.Prelude.{ℕ, Option, Some, None}

-- after how many sessions it ends: where no number is asked for, after as many as 64 bits can count
abbrev pub end_planned : Option ℕ → ℕ
end_planned (Some n) = n
end_planned None = 18446744073709551615

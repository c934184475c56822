-- When a descriptor takes a line at once
use Rattle.std.specs.Prelude.{◌==◌, ◌&&◌, ℤ, pos, Bool, false}

-- a poll of it alone told that it can be written (4), and nothing else
abbrev pub takes_line : ℤ → ℤ → Bool
takes_line (pos polled) (pos told) = polled == 1 && told == 4
takes_line _ _ = false

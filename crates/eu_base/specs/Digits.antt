-- Numbers in decimal digits
use Rattle.std.specs.Prelude.{ℕ, List, length, Option, Some, None, ◌&&◌, nat_lt, if◌then◌else◌}
use Rattle.std.specs.Str.{all_ascii_digits}
use Rattle.std.specs.Str.Parse.{digits_value}

-- up to 19 decimal digits
abbrev pub digits : List ℕ → Option ℕ
digits text = if nat_lt (length text) 20 && all_ascii_digits text then Some (digits_value 10 text) else None

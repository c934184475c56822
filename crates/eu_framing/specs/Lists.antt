-- How a list is cut at its commas. Only the contracts of private functions speak of this.
use Rattle.std.specs.Prelude.{◌≢◌, ℕ, List}
use Rattle.std.specs.List.{AllByRecursion}
use Rattle.httparse.specs.Ascii.{comma}

-- bytes without a comma
abbrev pub HasNoComma : List ℕ → Type 0
HasNoComma bytes = AllByRecursion (λ b. b ≢ comma) bytes

-- What a server writes once it has ended.
use Rattle.std.specs.Prelude.{ℕ, List, ◌++◌, codes}
use Rattle.std.specs.Fmt.{decimal}

-- the line that says how many connections were served
abbrev pub served_text : ℕ → List ℕ
served_text n = codes "served " ++ (decimal n ++ codes "\n")

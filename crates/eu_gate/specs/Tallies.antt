-- How many responses clients were given
use Rattle.std.specs.Prelude.{ℕ, ◌+◌, ◌-◌, ◌^◌, ◌==◌, min, if◌then◌else◌, List, [], ◌∷◌, map, Option, Some, None}
use Rattle.eu_gate.specs.declared.tally.Count.{Count}
use Rattle.eu_gate.specs.declared.tally.Tally.{Tally}

-- so many, or as many as can be told
abbrev pub at_most : ℕ → ℕ
at_most n = min n (2 ^ 64 - 1)

-- once more, where it has that number
abbrev pub counted : ℕ → Count → Count
counted number c = if c.number == number then record c { times = at_most (c.times + 1) } else c

-- a response counts among the faults where it tells one
abbrev pub fault_counted : Option ℕ → List Count → List Count
fault_counted (Some fault) counts = map (counted fault) counts
fault_counted None counts = counts

-- how often a number was told: 0 where it isn't counted
abbrev pub times_in : ℕ → List Count → ℕ
times_in number [] = 0
times_in number (c ∷ cs) = if c.number == number then c.times else times_in number cs

-- with as many more as others count of its number
abbrev pub with_those_of : List Count → Count → Count
with_those_of others c = record c { times = at_most (c.times + times_in c.number others) }

-- each of these, never told
abbrev pub never : List ℕ → List Count
never numbers = map (λ number. record { number = number; times = 0 }) numbers

-- the statuses that clients are given (RFC 9110, section 15)
abbrev pub statuses : List ℕ
statuses = 200 ∷ 204 ∷ 400 ∷ 403 ∷ 404 ∷ 408 ∷ 409 ∷ 413 ∷ 415 ∷ 431 ∷ 503 ∷ []

-- the faults that they are told: of a name and of memory, of a count or a registry at its limit, of a body, of a head and its framing, of a path and its query, of an encoding
abbrev pub faults : List ℕ
faults = 2 ∷ 3 ∷ 6 ∷ 7 ∷ 20 ∷ 21 ∷ 22 ∷ 23 ∷ 24 ∷ 25 ∷ 26 ∷ 27 ∷ 28 ∷ 29 ∷ 30 ∷ 31 ∷ 32 ∷ 33 ∷ 34 ∷ 35 ∷ 36 ∷ 37 ∷ 38 ∷ 42 ∷ []

abbrev pub no_responses : Tally
no_responses = record { statuses = never statuses; faults = never faults }

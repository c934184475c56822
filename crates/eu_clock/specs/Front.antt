-- Draws from a list: the front of a Knuth shuffle
use Rattle.std.specs.Prelude.{ℕ, zero, suc, ◌+◌, ◌-◌, List, length, swap, take}

-- the law of a chooser with the states S: its word below a bound, and the state that it leaves
abbrev pub Asks : Type 0 → Type 0
Asks S = S → ℕ → ℕ × S

-- n more draws from place i on: a word below the number of places that are left says how far away the member is that comes to i
abbrev pub shuffled_from : {X S : Type 0} → Asks S → ℕ → ℕ → List X → S → List X
shuffled_from asks i zero xs s = xs
shuffled_from asks i (suc n) xs s =
    let word = asks s (length xs - i) in
    shuffled_from asks (i + 1) n (swap xs i (i + word.0)) word.1

-- the state of the chooser after them, for a list of this length
abbrev pub state_from : {S : Type 0} → Asks S → ℕ → ℕ → ℕ → S → S
state_from asks i zero len s = s
state_from asks i (suc n) len s = state_from asks (i + 1) n len (asks s (len - i)).1

-- the list after n draws
abbrev pub shuffled : {X S : Type 0} → Asks S → ℕ → List X → S → List X
shuffled asks n xs s = shuffled_from asks 0 n xs s

-- the n members that are drawn
abbrev pub front : {X S : Type 0} → Asks S → ℕ → List X → S → List X
front asks n xs s = take n (shuffled asks n xs s)

abbrev pub state_after : {S : Type 0} → Asks S → ℕ → ℕ → S → S
state_after asks n len s = state_from asks 0 n len s

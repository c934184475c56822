-- Steps one after another
use Rattle.std.specs.Prelude.{◌≡◌, List, [], ◌∷◌}

-- from old to new by one step for each item, in order
abbrev pub Chain : {S T : Type 0} → (S → T → S → Type 0) → S → List T → S → Type 0
Chain step old [] new = new ≡ old
Chain {S} step old (x ∷ xs) new = (mid : S) × step old x mid × Chain step mid xs new

-- from old to new by one step for each item of the one list with the item of the other at its place, in order; both are as long
abbrev pub Pairs : {S A R : Type 0} → (S → A → R → S → Type 0) → S → List A → List R → S → Type 0
Pairs step old [] [] new = new ≡ old
Pairs {S} step old (a ∷ others) (r ∷ rs) new = (mid : S) × step old a r mid × Pairs step mid others rs new
Pairs step old [] (r ∷ rs) new = ⊥
Pairs step old (a ∷ others) [] new = ⊥

-- What is kept of the values of the fields of one name. Only the contracts of private functions speak of this.
use Rattle.std.specs.Prelude.{◌≡◌, ℕ, List, [], ◌∷◌}
use Rattle.eu_framing.specs.declared.fields.Said.{Said}
use Rattle.eu_framing.specs.declared.fields.Said.TheVariants.{Never, Once, Often}

-- none, the one, or that there are several
abbrev pub IsSaid : Said → List (List ℕ) → Type 0
IsSaid Never values = values ≡ []
IsSaid (Once v) values = values ≡ v.now ∷ []
IsSaid Often values = (a : List ℕ) × (b : List ℕ) × (rest : List (List ℕ)) × (values ≡ a ∷ b ∷ rest)

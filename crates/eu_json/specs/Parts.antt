-- What is so of the parts of a text that was read
use Rattle.std.specs.Prelude.{◌≡◌, ⊤, true, false, Some, Result, Ok, codes}
use Rattle.serde_json.specs.Data.{Data, Items, no_items, item}
use Rattle.serde_json.specs.Find.{get}
use Rattle.serde_json.specs.Written.{has_float}
use Rattle.eu_text.specs.Fit.{is_fit}
use Rattle.eu_base.specs.Gives.{result_map}
use Rattle.eu_base.specs.declared.faults.Fault.{Fault}
use Rattle.eu_json.specs.Batch.{items_in}

-- where its numbers are whole it can be kept as its text
abbrev pub FitsIfWhole : Data → Type 0
FitsIfWhole d = has_float d ≡ false → is_fit d ≡ true

-- so it is with the instance of an item, if it has one
abbrev pub InfoFits : Data → Type 0
InfoFits i = (d : Data) → get (codes "instanceInfo") i ≡ Some d → FitsIfWhole d

-- and with that of each
abbrev pub InfosFit : Items → Type 0
InfosFit no_items = ⊤
InfosFit (item i is) = InfoFits i × InfosFit is

-- what was read as a body: it, and its member instance
abbrev pub BodyFits : Data → Type 0
BodyFits d = FitsIfWhole d × ((i : Data) → get (codes "instance") d ≡ Some i → FitsIfWhole i)

-- what was read as a batch: the instance of each of its items
abbrev pub BatchFits : Data → Type 0
BatchFits d = (is : Items) → items_in d ≡ Ok is → InfosFit is

-- that something is said, or its first fault
abbrev pub stands : {A : Type 0} → Result A Fault → Result (Unit {0}) Fault
stands said = result_map (λ _. tt) said

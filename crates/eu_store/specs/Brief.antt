-- Listings that are brief
use Rattle.std.specs.Prelude.{◌≡◌, ◌≤◌, ℕ, List, Option, Some, length, slice_get}
use Rattle.serde_json.specs.Data.{object, Members}
use Rattle.eu_base.specs.declared.instances.Instance.{Instance}
use Rattle.eu_model.specs.declared.views.Listed.{Listed}
use Rattle.eu_model.specs.Machine.{Machine}
use Rattle.eu_model.specs.Plain.{Plain, plain}
use Rattle.eu_model.specs.View.{listing}
use Rattle.eu_text.specs.Object.{IsTextOf}
use Rattle.eu_text.specs.declared.cut.Cuts.{Cuts}

-- the text of what a client gave of its instance has so many bytes at most
abbrev pub IsShort : ℕ → Instance → Type 0
IsShort most i = (text : List ℕ) × (cuts : Cuts) × (ms : Members) × (i.rest ≡ object ms) × IsTextOf text cuts ms × (length text ≤ most)

-- so many leases are listed at most, and each is short
abbrev pub IsBrief : ℕ → ℕ → List Listed → Type 0
IsBrief few short ls = (length ls ≤ few) × ((i : ℕ) (l : Listed) → slice_get ls i ≡ Some l → IsShort short l.instance)

-- and so is what a machine lists of an application, or of all where none is given
abbrev pub ListsBriefly : ℕ → ℕ → Option (List ℕ) → Plain → Type 0
ListsBriefly few short app p = (s : Machine) → plain s ≡ p → IsBrief few short (listing app s)

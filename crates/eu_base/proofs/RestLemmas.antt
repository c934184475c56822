-- Members that are kept
use Rattle.std.proofs.Common.{◌≡◌, true, is_some}
use Rattle.serde_json.specs.Data.{Data}
use Rattle.serde_json.specs.Find.{as_object}
use Rattle.serde_json.specs.Read.{max_depth}
use Rattle.eu_text.specs.Fit.{is_fit}
use Rattle.eu_text.proofs.ReadLemmas.{has_no_float}
use Rattle.eu_base.specs.Rest.{IsRest}

pub is_rest : (d : Data) → is_some (as_object d) ≡ true → is_fit d ≡ true → IsRest d
is_rest d object fit = record { members = object; whole = has_no_float max_depth d fit; fit = fit }

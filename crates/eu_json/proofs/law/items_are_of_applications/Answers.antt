use Rattle.eu_json.proofs.ApplicationLemmas.{items_are_of_applications, leases_are_of_applications}
use Rattle.eu_json.proofs.law.items_are_of_applications.Goals as goal

pub returns : goal.returns
returns c = record { items = items_are_of_applications; leases = leases_are_of_applications }

use Rattle.eu_model.proofs.LawLemmas.{steps_alike, faults_alike, views_alike}
use Rattle.eu_model.proofs.RaiseLemmas.{raise}
use Rattle.eu_model.proofs.law.plain_form_decides.Goals as goal

pub returns : goal.returns
returns c = record { steps = steps_alike; faults = faults_alike; views = views_alike; each = raise }

use Rattle.serde_json.specs.View.{view}
use Rattle.eu_json.proofs.PartLemmas.{body_fits}
use Rattle.eu_json.proofs.read.read_instance.Goals as goal

pub of_body-requires : goal.of_body-requires
of_body-requires c = body_fits c.args.text.now (view c.in_ok-body.body) c.in_ok-body.ensures.said

pub returns-clause-memory : goal.returns-clause-memory
returns-clause-memory c = λ _. c.in_ok-body.ensures.filled

use Rattle.serde_json.specs.View.{view}
use Rattle.eu_json.proofs.PartLemmas.{infos_of_text}
use Rattle.eu_json.proofs.batch.of_text.Goals as goal

pub commands_in-requires : goal.commands_in-requires
commands_in-requires c = infos_of_text c.args.text.now (view c.in-Ok.body) c.in-Ok.ensures.said

pub returns-clause-memory : goal.returns-clause-memory
returns-clause-memory c = λ _. c.in-Ok.ensures.filled

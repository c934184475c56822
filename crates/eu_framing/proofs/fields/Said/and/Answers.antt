use Rattle.eu_framing.proofs.FieldLemmas.{twice, thrice}
use Rattle.eu_framing.proofs.fields.Said.and.Goals as goal

pub returns-in-Once : goal.returns-in-Once
returns-in-Once c = λ before said. twice c.args.value.now before _ (rw c.in-Once.is at said)

pub returns-in-Often : goal.returns-in-Often
returns-in-Often c = λ before said. thrice c.args.value.now before (rw c.in-Often.is at said)

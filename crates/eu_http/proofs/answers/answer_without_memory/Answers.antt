use Rattle.std.proofs.Common.{refl}
use Rattle.std.specs.Fmt.{digits}
use Rattle.eu_http.proofs.answers.answer_without_memory.Goals as goal

pub returns : goal.returns
unfolding digits
returns c = refl

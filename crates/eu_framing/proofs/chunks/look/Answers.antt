use Rattle.eu_framing.proofs.ChunkLemmas.{line_found, line_never}
use Rattle.eu_framing.proofs.chunks.look.Goals as goal

pub returns-in-Ok-Complete-clause-line : goal.returns-in-Ok-Complete-clause-line
returns-in-Ok-Complete-clause-line c = line_found c.args.room _ c.in-Ok-Complete.found (rw (c.in-Ok-Complete.field-0-is, c.window.ensures) at c.in-Ok-Complete.ensures.complete)

pub returns-in-Err-clause-fault : goal.returns-in-Err-clause-fault
returns-in-Err-clause-fault c = λ more. line_never c.args.room c.args.start c.args.buffer.now more c.requires (rw c.window.ensures at c.in-Err.ensures.invalid)

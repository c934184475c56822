use Rattle.std.proofs.Common.{List, ℕ, drop}
use Rattle.std.proofs.lemmas.Result.{err_from_is_err_and}
use Rattle.eu_framing.specs.Chunks.{IsLineFault}
use Rattle.eu_framing.proofs.HeadLemmas.{no_more}
use Rattle.eu_framing.proofs.chunks.last_line.Goals as goal

pub returns-in_err-found-clause-fault : goal.returns-in_err-found-clause-fault
returns-in_err-found-clause-fault c =
    let p = err_from_is_err_and c.from_residual.result c.from_residual.ensures.1 in
    rw (p.1, p.2) (no_more (λ (bytes : List ℕ). IsLineFault c.args.room (drop c.args.start bytes) c.in_err-found.field-0.0) c.args.buffer.now c.in_err-found.ensures.fault)

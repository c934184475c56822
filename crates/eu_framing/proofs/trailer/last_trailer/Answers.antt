use Rattle.std.proofs.Common.{List, ℕ, drop}
use Rattle.std.proofs.lemmas.Result.{err_from_is_err_and}
use Rattle.eu_framing.specs.Chunks.{IsTrailerFault}
use Rattle.eu_framing.proofs.HeadLemmas.{no_more}
use Rattle.eu_framing.proofs.trailer.last_trailer.Goals as goal

pub returns-in_err-len-clause-fault : goal.returns-in_err-len-clause-fault
returns-in_err-len-clause-fault c =
    let p = err_from_is_err_and c.from_residual.result c.from_residual.ensures.1 in
    rw (p.1, p.2) (no_more (λ (bytes : List ℕ). IsTrailerFault c.args.room (drop c.args.start bytes) c.in_err-len.field-0.0) c.args.buffer.now c.in_err-len.ensures.fault)

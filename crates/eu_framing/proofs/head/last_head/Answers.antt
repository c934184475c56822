use Rattle.std.proofs.Common.{List, ℕ, sym, false}
use Rattle.std.proofs.lemmas.Result.{err_from_is_err_and}
use Rattle.eu_framing.specs.Message.{IsHeadFault}
use Rattle.eu_framing.proofs.HeadLemmas.{head_cut, blank_found, no_more}
use Rattle.eu_framing.proofs.head.last_head.Goals as goal

pub returns-in_err-head-clause-fault : goal.returns-in_err-head-clause-fault
returns-in_err-head-clause-fault c =
    let p = err_from_is_err_and c.from_residual.result c.from_residual.ensures.1 in
    rw (p.1, p.2) (no_more (λ (bytes : List ℕ). IsHeadFault bytes c.in_err-head.field-0.0) c.args.buffer.now c.in_err-head.ensures.fault)

pub returns-in-None-clause-end : goal.returns-in-None-clause-end
returns-in-None-clause-end c = (c.requires.short, blank_found false c.args.buffer.now (sym c.if-only_blank.ensures))

pub returns-in-None-2-clause-fault : goal.returns-in-None-2-clause-fault
returns-in-None-2-clause-fault c = head_cut c.args.buffer.now c.requires.short (rw c.in-None-2.is at c.in_ok-head.ensures.none) (sym c.if-only_blank.ensures)

use Rattle.std.proofs.Common.{Err, inl, refl}
use Rattle.std.proofs.KnownBytes.{Keeps-refl}
use Rattle.std.proofs.lemmas.Result.{err_from_is_err_and}
use Rattle.eu_server.proofs.Journals.{unwritten, untold}
use Rattle.eu_server.proofs.serve.serve_with_journal.Goals as goal

pub returns-in_err-outcome-clause-untold : goal.returns-in_err-outcome-clause-untold
returns-in_err-outcome-clause-untold g c =
    let p = err_from_is_err_and c.from_residual.result c.from_residual.ensures.1 in
    rw (p.1, p.2) (inl (c.in_err-outcome.ensures.fault, refl, Keeps-refl _))

pub returns-in_err-write_closed-clause-untold : goal.returns-in_err-write_closed-clause-untold
returns-in_err-write_closed-clause-untold g c =
    let p = err_from_is_err_and c.from_residual-in_err-write_closed.result c.from_residual-in_err-write_closed.ensures.1 in
    let o = c.in_ok-outcome in
    let e = c.in_err-write_closed in
    rw (p.1, p.2) (unwritten _ (g.J.Sink.failed c.write_closed.new.journal) _ _ o.outcome.closed o.ensures.lawful o.ensures.plain.0 o.ensures.plain.1
    (Err e.field-0.0) e.field-0.0 refl e.ensures.fault refl e.ensures.memory e.ensures.front e.ensures.failed)

pub returns-in_err-tell-clause-untold : goal.returns-in_err-tell-clause-untold
returns-in_err-tell-clause-untold g c =
    let p = err_from_is_err_and c.from_residual-in_err-tell.result c.from_residual-in_err-tell.ensures.1 in
    let o = c.in_ok-outcome in
    rw (p.1, p.2) (untold _ (g.J.Sink.failed c.write_closed.new.journal) _ _ o.outcome.closed o.ensures.lawful o.ensures.plain.0 o.ensures.plain.1
    c.in_err-tell.field-0.0 c.in_err-tell.ensures.err c.in_ok-write_closed.ensures.written)

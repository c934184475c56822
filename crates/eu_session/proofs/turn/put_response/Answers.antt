use Rattle.std.proofs.Common.{ℕ, List, length, OnErr, Result, Ok, Err, subst, sym}
use Rattle.std.proofs.Math.Seq.{take-length}
use Rattle.std.specs.Io.KnownBytes.{Appends}
use Rattle.std.proofs.KnownBytes.{Appends-kept}
use Rattle.eu_session.proofs.turn.put_response.Goals as goal

-- what holds in any case holds where there is an error
on_err : {X E : Type 0} (r : Result X E) (P : Type 0) → P → OnErr r P
on_err (Ok x) P p = tt
on_err (Err e) P p = p

pub returns-clause-err : goal.returns-clause-err
returns-clause-err g c =
    let text = c.args.response in
    on_err c.flush.result _ (length text, subst (λ (bytes : List ℕ). Appends (g.W.Sink.contents c.args.writer.now) (g.W.Sink.contents c.flush.new.self) bytes) (sym (take-length text)) (Appends-kept _ _ _ text c.in_ok-write_to.ensures.ok c.flush.ensures.kept))

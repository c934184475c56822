use Rattle.std.proofs.Common.{◌++◌, ◌∷◌, []}
use Rattle.std.proofs.lemmas.Result.{err_from_is_err_and}
use Rattle.eu_lines.specs.Steps.{standing}
use Rattle.eu_lines.proofs.Steps.{shown_written, stopped_writing}
use Rattle.eu_lines.proofs.run.take_end.Goals as goal

pub returns-in_err-write_out-clause-err : goal.returns-in_err-write_out-clause-err
returns-in_err-write_out-clause-err g c =
    let p = err_from_is_err_and c.from_residual-in_err-write_out.result c.from_residual-in_err-write_out.ensures.1 in
    let f = c.in_err-write_out.ensures.err in
    rw (p.1, p.2) (λ start lines line shown partial counts.
    stopped_writing c.args.limits g.D.Answerer.answers g.D.Answerer.refuses start (standing c.take_line.new.run c.take_line.new.desk c.take_line.new.context (g.W.Sink.contents c.take_line.new.writer))
    (record { context = c.take_line.new.context; holds = g.W.Sink.contents c.write_out.new.writer; failed = g.W.Sink.failed c.write_out.new.writer })
    (lines ++ (line ++ []) ∷ []) f.0
    (c.in_ok-take_line.ensures.ok start lines line shown partial) c.in_err-write_out.ensures.failed f.1)

pub returns-clause-ok : goal.returns-clause-ok
returns-clause-ok g c = λ start lines line shown partial.
    shown_written c.args.limits g.D.Answerer.answers start (standing c.take_line.new.run c.take_line.new.desk c.take_line.new.context (g.W.Sink.contents c.take_line.new.writer))
    (record c.take_line.new.run { waiting = c.write_out.new.waiting }) (g.W.Sink.contents c.write_out.new.writer) (lines ++ (line ++ []) ∷ [])
    (c.in_ok-take_line.ensures.ok start lines line shown partial) c.in_ok-write_out.ensures.ok c.in_ok-write_out.ensures.none

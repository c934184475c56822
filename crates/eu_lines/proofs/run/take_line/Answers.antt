use Rattle.std.proofs.Common.{◌++◌, ◌∷◌, [], ap, Err, ◌∙◌}
use Rattle.std.proofs.lemmas.Result.{err_from_is_err_and}
use Rattle.eu_lines.specs.declared.faults.ScriptFault.TheVariants.{Write}
use Rattle.eu_lines.specs.Script.{place}
use Rattle.eu_lines.specs.Steps.{standing}
use Rattle.eu_lines.proofs.Steps.{shown_line, shown_written, stopped_line, stopped_writing, stopped_more}
use Rattle.eu_lines.proofs.run.take_line.Goals as goal

pub returns-in_err-write_out-clause-err : goal.returns-in_err-write_out-clause-err
returns-in_err-write_out-clause-err g c =
    let p = err_from_is_err_and c.from_residual.result c.from_residual.ensures.1 in
    let f = c.in_err-write_out.ensures.err in
    let a = rw (c.in-Err.ensures.err.0) at f.1 in
    rw (p.1, p.2) (λ start lines line shown partial counts.
    let now = standing c.args.run.now c.args.desk.now c.args.context.now (g.W.Sink.contents c.args.writer.now) in
    stopped_more c.args.limits g.D.Answerer.answers g.D.Answerer.refuses Write start lines ((line ++ c.args.part.now) ∷ []) (record { context = c.answer_part.new.context; holds = g.W.Sink.contents c.write_out.new.writer; failed = g.W.Sink.failed c.write_out.new.writer })
    (stopped_writing c.args.limits g.D.Answerer.answers g.D.Answerer.refuses start now (record { context = c.answer_part.new.context; holds = g.W.Sink.contents c.write_out.new.writer; failed = g.W.Sink.failed c.write_out.new.writer }) lines f.0 shown c.in_err-write_out.ensures.failed a))

pub returns-in-Err-clause-err : goal.returns-in-Err-clause-err
returns-in-Err-clause-err g c =
    let a = rw (c.in-Err.ensures.err.0) at c.in_ok-write_out.ensures.ok in
    λ start lines line shown partial counts.
    rw c.fault_at.ensures
    (stopped_line c.args.limits g.D.Answerer.answers g.D.Answerer.refuses c.in-Err.error start (standing c.args.run.now c.args.desk.now c.args.context.now (g.W.Sink.contents c.args.writer.now))
    (record { context = c.answer_part.new.context; holds = g.W.Sink.contents c.write_out.new.writer; failed = g.W.Sink.failed c.write_out.new.writer })
    lines (line ++ c.args.part.now) c.answer_part.new.run.number shown
    (c.in-Err.ensures.err.1 ∙ counts) (λ h. c.in-Err.ensures.bad (ap Err h) line partial) (λ h. c.in-Err.ensures.same_context (ap Err h)) a)

pub returns-in_err-write_waiting-clause-err : goal.returns-in_err-write_waiting-clause-err
returns-in_err-write_waiting-clause-err g c =
    let p = err_from_is_err_and c.from_residual-in_err-write_waiting.result c.from_residual-in_err-write_waiting.ensures.1 in
    let f = c.in_err-write_waiting.ensures.err in
    rw (p.1, p.2) (λ start lines line shown partial counts.
    let ok = c.in_default.ensures.ok line partial in
    stopped_writing c.args.limits g.D.Answerer.answers g.D.Answerer.refuses start (standing c.answer_part.new.run c.answer_part.new.desk c.answer_part.new.context (g.W.Sink.contents c.args.writer.now))
    (record { context = c.answer_part.new.context; holds = g.W.Sink.contents c.write_waiting.new.writer; failed = g.W.Sink.failed c.write_waiting.new.writer })
    (lines ++ (line ++ c.args.part.now) ∷ []) f.0
    (shown_line c.args.limits g.D.Answerer.answers start (standing c.args.run.now c.args.desk.now c.args.context.now (g.W.Sink.contents c.args.writer.now)) c.answer_part.new.run (place c.answer_part.new.desk c.answer_part.new.context)
    lines (line ++ c.args.part.now) ok.0 shown ok.1 ok.2)
    c.in_err-write_waiting.ensures.failed f.1)

pub returns-in_ok-write_waiting-clause-ok : goal.returns-in_ok-write_waiting-clause-ok
returns-in_ok-write_waiting-clause-ok g c = λ start lines line shown partial.
    let ok = c.in_default.ensures.ok line partial in
    shown_written c.args.limits g.D.Answerer.answers start (standing c.answer_part.new.run c.answer_part.new.desk c.answer_part.new.context (g.W.Sink.contents c.args.writer.now))
    (record c.answer_part.new.run { waiting = c.write_waiting.new.waiting }) (g.W.Sink.contents c.write_waiting.new.writer) (lines ++ (line ++ c.args.part.now) ∷ [])
    (shown_line c.args.limits g.D.Answerer.answers start (standing c.args.run.now c.args.desk.now c.args.context.now (g.W.Sink.contents c.args.writer.now)) c.answer_part.new.run (place c.answer_part.new.desk c.answer_part.new.context)
    lines (line ++ c.args.part.now) ok.0 shown ok.1 ok.2)
    c.in_ok-write_waiting.ensures.ok c.in_ok-write_waiting.ensures.none

pub returns-else-len-ge-BLOCK-clause-ok : goal.returns-else-len-ge-BLOCK-clause-ok
returns-else-len-ge-BLOCK-clause-ok g c = λ start lines line shown partial.
    let ok = c.in_default.ensures.ok line partial in
    shown_line c.args.limits g.D.Answerer.answers start (standing c.args.run.now c.args.desk.now c.args.context.now (g.W.Sink.contents c.args.writer.now)) c.answer_part.new.run (place c.answer_part.new.desk c.answer_part.new.context)
    lines (line ++ c.args.part.now) ok.0 shown ok.1 ok.2

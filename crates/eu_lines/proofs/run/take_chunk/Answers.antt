use Rattle.std.proofs.Common.{◌≡◌, [], ◌+◌, ◌++◌, ◌∷◌, length, arith, refl, ◌∙◌, length-append}
use Rattle.std.proofs.lemmas.Result.{err_from_is_err_and}
use Rattle.eu_lines.specs.declared.faults.ScriptFault.TheVariants.{Write, OutOfMemory}
use Rattle.eu_lines.specs.Steps.{standing}
use Rattle.eu_lines.proofs.Steps.{goes_to, stands_line_in, stands_rest_in, stopped_here_in, stopped_memory, stopped_next_in, stopped_writing}
use Rattle.eu_lines.proofs.run.take_chunk.Goals as goal

pub returns-in_err-take_line-clause-err : goal.returns-in_err-take_line-clause-err
returns-in_err-take_line-clause-err g c =
    let p = err_from_is_err_and c.from_residual.result c.from_residual.ensures.1 in
    let inv = c.lines.invariant.so_far in
    rw (p.1, p.2) (λ start text st.
    let here = inv.2 start text st in
    stopped_next_in c.args.limits g.D.Answerer.answers g.D.Answerer.refuses c.in_err-take_line.field-0.0 start text inv.0 c.lines.rest.now c.in-Some.part.now c.in-Some.after.now c.args.chunk.now
    (standing c.lines.run c.lines.desk c.lines.context (g.W.Sink.contents c.lines.writer))
    (record { context = c.take_line.new.context; holds = g.W.Sink.contents c.take_line.new.writer; failed = g.W.Sink.failed c.take_line.new.writer })
    inv.1 c.in-Some.ensures.whole c.in-Some.ensures.first here (c.in_err-take_line.ensures.err start here.lines here.tail here.shown here.keeps here.counts))

pub lines-preserved : goal.lines-preserved
lines-preserved g c =
    let inv = c.lines.invariant.so_far in
    let first = c.in-Some.ensures.first in
    let whole = c.in-Some.ensures.whole in
    let more : length c.lines.rest.now ≡ length c.in-Some.part.now + (1 + length c.in-Some.after.now) = rw whole (omega (arith, length-append c.in-Some.part.now (10 ∷ c.in-Some.after.now))) in
    record {
      room = omega (arith, more, c.in_ok-take_line.ensures.number, c.lines.invariant.room);
      same_stream = c.take_line.ensures.same_stream ∙ c.lines.invariant.same_stream;
      sound = c.in_ok-take_line.ensures.sound ∙ c.lines.invariant.sound;
      so_far = (
        inv.0 ++ (c.in-Some.part.now ++ 10 ∷ []),
        goes_to inv.0 c.lines.rest.now c.in-Some.part.now c.in-Some.after.now c.args.chunk.now inv.1 whole,
        λ start text st.
            let here = inv.2 start text st in
            stands_line_in c.args.limits g.D.Answerer.answers g.D.Answerer.refuses start text inv.0 c.in-Some.part.now (standing c.lines.run c.lines.desk c.lines.context (g.W.Sink.contents c.lines.writer))
            (standing c.take_line.new.run c.take_line.new.desk c.take_line.new.context (g.W.Sink.contents c.take_line.new.writer)) first here
            (c.in_ok-take_line.ensures.ok start here.lines here.tail here.shown here.keeps) c.in_ok-take_line.ensures.kept c.in_ok-take_line.ensures.number,
      );
    }

pub returns-in_err-write_out-clause-err : goal.returns-in_err-write_out-clause-err
returns-in_err-write_out-clause-err g c =
    let p = err_from_is_err_and c.from_residual-in_err-write_out.result c.from_residual-in_err-write_out.ensures.1 in
    let inv = c.lines.invariant.so_far in
    let f = c.in_err-write_out.ensures.err in
    rw (p.1, p.2) (λ start text st.
    let here = inv.2 start text st in
    let now = standing c.lines.run c.lines.desk c.lines.context (g.W.Sink.contents c.lines.writer) in
    stopped_here_in c.args.limits g.D.Answerer.answers g.D.Answerer.refuses Write start text inv.0 c.lines.rest.now c.args.chunk.now now (record { context = c.lines.context; holds = g.W.Sink.contents c.write_out.new.writer; failed = g.W.Sink.failed c.write_out.new.writer }) inv.1 here
    (stopped_writing c.args.limits g.D.Answerer.answers g.D.Answerer.refuses start now (record { context = c.lines.context; holds = g.W.Sink.contents c.write_out.new.writer; failed = g.W.Sink.failed c.write_out.new.writer }) here.lines f.0 here.shown c.in_err-write_out.ensures.failed f.1))

pub returns-in_err-partial-clause-err : goal.returns-in_err-partial-clause-err
returns-in_err-partial-clause-err g c =
    let p = err_from_is_err_and c.from_residual-in_err-partial.result c.from_residual-in_err-partial.ensures.1 in
    let inv = c.lines.invariant.so_far in
    rw (p.1, p.2) (λ start text st.
    let here = inv.2 start text st in
    let now = standing c.lines.run c.lines.desk c.lines.context (g.W.Sink.contents c.lines.writer) in
    stopped_here_in c.args.limits g.D.Answerer.answers g.D.Answerer.refuses OutOfMemory start text inv.0 c.lines.rest.now c.args.chunk.now now (record { context = c.lines.context; holds = g.W.Sink.contents c.write_out.new.writer; failed = g.W.Sink.failed c.write_out.new.writer }) inv.1 here
    (stopped_memory c.args.limits g.D.Answerer.answers g.D.Answerer.refuses start now (record { context = c.lines.context; holds = g.W.Sink.contents c.write_out.new.writer; failed = g.W.Sink.failed c.write_out.new.writer }) here.lines here.shown c.in_ok-write_out.ensures.ok))

pub returns-clause-ok : goal.returns-clause-ok
returns-clause-ok g c = λ start text st.
    let inv = c.lines.invariant.so_far in
    let here = inv.2 start text st in
    stands_rest_in c.args.limits g.D.Answerer.answers g.D.Answerer.refuses start text inv.0 c.lines.rest.now c.args.chunk.now (standing c.lines.run c.lines.desk c.lines.context (g.W.Sink.contents c.lines.writer))
    (record c.lines.run { partial = c.keep-partial.new.partial; waiting = c.write_out.new.waiting }) (g.W.Sink.contents c.write_out.new.writer)
    inv.1 c.in_default.ensures.none here c.in_ok-partial.ensures.ok refl c.in_ok-write_out.ensures.ok c.in_ok-write_out.ensures.none

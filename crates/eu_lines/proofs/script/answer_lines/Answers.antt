use Rattle.std.proofs.Common.{◌≡◌, ℕ, List, ◌<◌, length, take, drop, arith, refl, ap, ◌∙◌, inl, inr, length-take}
use Rattle.std.proofs.KnownBytes.{Keeps-refl}
use Rattle.std.proofs.lemmas.List.{take_at}
use Rattle.std.proofs.lemmas.Result.{err_from_is_err_and}
use Rattle.eu_lines.specs.Script.{place}
use Rattle.eu_lines.specs.Steps.{standing}
use Rattle.eu_lines.proofs.Stages.{ends_at_once, ends_by_read, ends_whole, ends_within, stage_more, stage_start}
use Rattle.eu_lines.proofs.script.answer_lines.Goals as goal

pub returns-in_err-chunk-clause-answered : goal.returns-in_err-chunk-clause-answered
returns-in_err-chunk-clause-answered g c =
    let p = err_from_is_err_and c.from_residual.result c.from_residual.ensures.1 in
    rw (p.1, p.2) (ends_at_once c.args.limits g.D.Answerer.answers g.D.Answerer.refuses (record { place = place c.args.desk.now c.args.context.now; holds = g.W.Sink.contents c.args.writer.now }) _ (g.R.Source.failed c.args.reader.now) (g.W.Sink.failed c.args.writer.now))

pub reads-init : goal.reads-init
reads-init g c = record {
  chunk = c.in_ok-chunk.ensures;
  number = omega (arith, c.new-run.ensures.number);
  written = c.new-run.ensures.waiting;
  same_reader = refl;
  same_writer = refl;
  sound_reader = refl;
  sound_writer = refl;
  so_far = stage_start c.args.limits g.D.Answerer.answers g.D.Answerer.refuses (record { place = place c.args.desk.now c.args.context.now; holds = g.W.Sink.contents c.args.writer.now }) _ c.new-run.result c.new-run.ensures.kept c.new-run.ensures.number c.new-run.ensures.waiting;
}

pub returns-in_err-count-clause-answered : goal.returns-in_err-count-clause-answered
returns-in_err-count-clause-answered g c =
    let p = err_from_is_err_and c.from_residual-in_err-count.result c.from_residual-in_err-count.ensures.1 in
    rw (p.1, p.2) (ends_by_read c.args.limits g.D.Answerer.answers g.D.Answerer.refuses (record { place = place c.args.desk.now c.args.context.now; holds = g.W.Sink.contents c.args.writer.now }) _ _ _ c.reads.taken (standing c.reads.run c.reads.desk c.reads.context (g.W.Sink.contents c.reads.writer)) (g.R.Source.failed c.read_some.new.self) (g.W.Sink.failed c.reads.writer)
    c.reads.invariant.so_far c.in_err-count.ensures.kept c.reads.invariant.written (λ read e. inl c.in_err-count.ensures.failed))

pub returns-then-count-eq0-clause-answered : goal.returns-then-count-eq0-clause-answered
returns-then-count-eq0-clause-answered g c =
    let none : c.in_ok-count.count ≡ 0 = c.if-count-eq0.true in
    let eats = rw none at c.in_ok-count.ensures.bytes in
    let room : 0 < length c.read_some.new.buffer = omega (arith, c.read_some.auto.buffer, c.as_mut_slice.ensures.len, c.reads.invariant.chunk) in
    ends_whole c.args.limits g.D.Answerer.answers g.D.Answerer.refuses c.take_end.result (record { place = place c.args.desk.now c.args.context.now; holds = g.W.Sink.contents c.args.writer.now }) _ _ _ c.reads.taken (standing c.reads.run c.reads.desk c.reads.context (g.W.Sink.contents c.reads.writer))
    (standing c.take_end.new.run c.take_end.new.desk c.take_end.new.context (g.W.Sink.contents c.take_end.new.writer))
    (g.R.Source.failed c.read_some.new.self) (g.W.Sink.failed c.take_end.new.writer) c.reads.invariant.so_far (omega (arith, c.reads-test.true)) eats (c.in_ok-count.ensures.end none room) c.take_end.ensures.ok c.take_end.ensures.written c.take_end.ensures.err

pub returns-in_err-take_chunk-clause-answered : goal.returns-in_err-take_chunk-clause-answered
returns-in_err-take_chunk-clause-answered g c =
    let p = err_from_is_err_and c.from_residual-in_err-take_chunk.result c.from_residual-in_err-take_chunk.ensures.1 in
    let buffer = c.read_some.new.buffer in
    let part : take c.min-fresh.result c.deref.result.now ≡ take c.min-fresh.result buffer =
    ap (λ (bytes : List ℕ). take c.min-fresh.result bytes) (c.deref.ensures.value ∙ take_at buffer (drop (length buffer) c.reads.chunk.items) c.reads.chunk.len (omega (arith, c.read_some.auto.buffer, c.as_mut_slice.ensures.len))) in
    rw (p.1, p.2) (ends_within c.args.limits g.D.Answerer.answers g.D.Answerer.refuses c.in_err-take_chunk.field-0.0 (record { place = place c.args.desk.now c.args.context.now; holds = g.W.Sink.contents c.args.writer.now }) _ _ _ c.reads.taken c.in_ok-count.count c.min-fresh.result buffer (take c.min-fresh.result c.deref.result.now)
    (standing c.reads.run c.reads.desk c.reads.context (g.W.Sink.contents c.reads.writer))
    (record { context = c.take_chunk.new.context; holds = g.W.Sink.contents c.take_chunk.new.writer; failed = g.W.Sink.failed c.take_chunk.new.writer }) c.take_chunk.new.desk (g.R.Source.failed c.read_some.new.self) c.reads.invariant.so_far (omega (arith, c.reads-test.true)) c.in_ok-count.ensures.bytes c.in_ok-count.ensures.bound c.min-fresh.ensures part c.in_err-take_chunk.ensures.err)

pub reads-preserved : goal.reads-preserved
reads-preserved g c =
    let buffer = c.read_some.new.buffer in
    let part : take c.min-fresh.result c.deref.result.now ≡ take c.min-fresh.result buffer =
    ap (λ (bytes : List ℕ). take c.min-fresh.result bytes) (c.deref.ensures.value ∙ take_at buffer (drop (length buffer) c.reads.chunk.items) c.reads.chunk.len (omega (arith, c.read_some.auto.buffer, c.as_mut_slice.ensures.len))) in
    record {
      chunk = c.reads.invariant.chunk;
      number = omega (arith, c.in_ok-take_chunk.ensures.number, c.min-fresh.ensures, c.reads.invariant.number, length-take {A = ℕ});
      written = c.in_ok-take_chunk.ensures.written;
      same_reader = c.read_some.ensures.same_stream ∙ c.reads.invariant.same_reader;
      same_writer = c.take_chunk.ensures.same_stream ∙ c.reads.invariant.same_writer;
      sound_reader = c.in_ok-count.ensures.sound ∙ c.reads.invariant.sound_reader;
      sound_writer = c.in_ok-take_chunk.ensures.sound ∙ c.reads.invariant.sound_writer;
      so_far = stage_more c.args.limits g.D.Answerer.answers g.D.Answerer.refuses (record { place = place c.args.desk.now c.args.context.now; holds = g.W.Sink.contents c.args.writer.now }) _ _ _ c.reads.taken c.in_ok-count.count c.min-fresh.result buffer (take c.min-fresh.result c.deref.result.now)
          (standing c.reads.run c.reads.desk c.reads.context (g.W.Sink.contents c.reads.writer)) (standing c.take_chunk.new.run c.take_chunk.new.desk c.take_chunk.new.context (g.W.Sink.contents c.take_chunk.new.writer))
          c.reads.invariant.so_far (omega (arith, c.reads-test.true)) c.in_ok-count.ensures.bytes c.in_ok-count.ensures.bound c.min-fresh.ensures part c.in_ok-take_chunk.ensures.ok;
    }

pub returns-clause-answered : goal.returns-clause-answered
returns-clause-answered g c =
    ends_by_read c.args.limits g.D.Answerer.answers g.D.Answerer.refuses (record { place = place c.args.desk.now c.args.context.now; holds = g.W.Sink.contents c.args.writer.now }) _ _ _ c.reads.taken (standing c.reads.run c.reads.desk c.reads.context (g.W.Sink.contents c.reads.writer)) (g.R.Source.failed c.reads.reader) (g.W.Sink.failed c.reads.writer)
    c.reads.invariant.so_far (Keeps-refl (g.R.Source.remaining c.reads.reader)) c.reads.invariant.written (λ read e. inr (omega (arith, e, c.reads-test.false)))

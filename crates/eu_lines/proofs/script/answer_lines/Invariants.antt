use Rattle.std.proofs.Common.{◌≡◌, ◌≤◌, ◌+◌, ◌-◌, [], vec_len}
use Rattle.eu_lines.specs.Script.{place}
use Rattle.eu_lines.specs.Steps.{standing}
use Rattle.eu_lines.proofs.Stages.{Stage}
use Rattle.eu_lines.proofs.script.answer_lines.Given as goal

abbrev pub invariant-reads : goal.invariant-reads
invariant-reads g l = record {
  chunk : vec_len l.chunk ≡ 65536;
  number : l.run.number ≤ l.taken;
  written : l.run.waiting.items ≡ [];
  same_reader : g.R.Source.stream l.reader ≡ g.R.Source.stream l.initial.reader;
  same_writer : g.W.Sink.stream l.writer ≡ g.W.Sink.stream l.initial.writer;
  sound_reader : g.R.Source.failed l.reader ≡ g.R.Source.failed l.initial.reader;
  sound_writer : g.W.Sink.failed l.writer ≡ g.W.Sink.failed l.initial.writer;
  so_far : Stage l.limits g.D.Answerer.answers (record { place = place l.initial.desk l.initial.context; holds = g.W.Sink.contents l.initial.writer }) (g.R.Source.remaining l.initial.reader) (g.R.Source.remaining l.reader) l.taken
      (standing l.run l.desk l.context (g.W.Sink.contents l.writer));
}

abbrev pub decreases-reads : goal.decreases-reads
decreases-reads g l = l.limits.text + 1 - l.taken

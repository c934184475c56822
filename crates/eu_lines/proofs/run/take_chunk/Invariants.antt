use Rattle.std.proofs.Common.{◌≡◌, ◌+◌, ◌≤◌, ◌++◌, ℕ, List, length}
use Rattle.eu_lines.specs.Steps.{Takes, standing}
use Rattle.eu_lines.proofs.run.take_chunk.Given as goal

abbrev pub invariant-lines : goal.invariant-lines
invariant-lines g l = record {
  room : l.run.number + length l.rest ≤ l.initial.run.number + length l.chunk;
  same_stream : g.W.Sink.stream l.writer ≡ g.W.Sink.stream l.initial.writer;
  sound : g.W.Sink.failed l.writer ≡ g.W.Sink.failed l.initial.writer;
  so_far : (done : List ℕ) × (l.chunk ≡ done ++ l.rest)
      × Takes l.limits g.D.Answerer.answers (standing l.initial.run l.initial.desk l.initial.context (g.W.Sink.contents l.initial.writer)) done (standing l.run l.desk l.context (g.W.Sink.contents l.writer));
}

abbrev pub decreases-lines : goal.decreases-lines
decreases-lines g l = length l.rest

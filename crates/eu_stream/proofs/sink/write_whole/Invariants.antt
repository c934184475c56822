use Rattle.std.proofs.Common.{length, ◌-◌, ◌≡◌, ◌≤◌, take}
use Rattle.std.specs.Io.KnownBytes.{Appends}
use Rattle.eu_stream.proofs.sink.write_whole.Given as goal

abbrev pub invariant-writes : goal.invariant-writes
invariant-writes g l = record {
  within : l.written ≤ length l.bytes;
  wrote : Appends (g.W.Sink.contents l.initial.writer) (g.W.Sink.contents l.writer) (take l.written l.bytes);
  sound : g.W.Sink.failed l.writer ≡ g.W.Sink.failed l.initial.writer;
  same_stream : g.W.Sink.stream l.writer ≡ g.W.Sink.stream l.initial.writer;
}

abbrev pub decreases-writes : goal.decreases-writes
decreases-writes g l = length l.bytes - l.written

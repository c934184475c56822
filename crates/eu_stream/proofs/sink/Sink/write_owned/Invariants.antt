use Rattle.std.proofs.Common.{length, ◌-◌, ◌≡◌, ◌≤◌, take}
use Rattle.std.specs.Io.KnownBytes.{Appends}
use Rattle.eu_stream.proofs.sink.Sink.write_owned.Given as goal

abbrev pub invariant-writes : goal.invariant-writes
invariant-writes g l = record {
  within : l.written ≤ length l.rest;
  wrote : Appends (g.Self.Sink.contents l.initial.self) (g.Self.Sink.contents l.self) (take l.written l.rest);
  sound : g.Self.Sink.failed l.self ≡ g.Self.Sink.failed l.initial.self;
  same_stream : g.Self.Sink.stream l.self ≡ g.Self.Sink.stream l.initial.self;
}

abbrev pub decreases-writes : goal.decreases-writes
decreases-writes g l = length l.rest - l.written

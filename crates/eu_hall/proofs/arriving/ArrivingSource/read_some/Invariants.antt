use Rattle.std.proofs.Common.{◌≡◌, length}
use Rattle.std.specs.Io.KnownBytes.{Keeps}
use Rattle.eu_hall.proofs.arriving.ArrivingSource.read_some.Given as goal

abbrev pub invariant-tries : goal.invariant-tries
invariant-tries g l = record {
  kept : Keeps (g.R.Read.remaining l.initial.self.reader.now) (g.R.Read.remaining l.self.reader.now);
  waits : l.self.waits ≡ l.initial.self.waits;
  sound : l.self.has_failed ≡ l.initial.self.has_failed;
  same_stream : l.self.reader.ghost_name ≡ l.initial.self.reader.ghost_name;
  room : l.room ≡ length l.buffer;
}

use Rattle.std.proofs.Common.{◌≡◌}
use Rattle.std.specs.Io.KnownBytes.{Keeps}
use Rattle.eu_stream.proofs.source.ReadingSource.read_some.Given as goal

abbrev pub invariant-tries : goal.invariant-tries
invariant-tries g l = record {
  kept : Keeps (g.R.Read.remaining l.initial.self.reader.now) (g.R.Read.remaining l.self.reader.now);
  sound : l.self.has_failed ≡ l.initial.self.has_failed;
  same_stream : l.self.reader.ghost_name ≡ l.initial.self.reader.ghost_name;
}

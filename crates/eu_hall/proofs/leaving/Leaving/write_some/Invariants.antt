use Rattle.std.proofs.Common.{◌≡◌}
use Rattle.std.specs.Io.KnownBytes.{Keeps}
use Rattle.eu_hall.proofs.leaving.Leaving.write_some.Given as goal

abbrev pub invariant-tries : goal.invariant-tries
invariant-tries g l = record {
  kept : Keeps (g.W.Write.contents l.initial.self.writer.now) (g.W.Write.contents l.self.writer.now);
  waits : l.self.waits ≡ l.initial.self.waits;
  sound : l.self.has_failed ≡ l.initial.self.has_failed;
  same_stream : l.self.writer.ghost_name ≡ l.initial.self.writer.ghost_name;
}

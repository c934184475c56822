use Rattle.std.proofs.Common.{length, ◌≡◌, ◌-◌, ◌≤◌, take}
use Rattle.std.specs.Io.KnownBytes.{Appends}
use Rattle.eu_hall.proofs.leaving.write_front.Given as goal

abbrev pub invariant-sends : goal.invariant-sends
invariant-sends g l = record {
  within : l.sent ≤ length l.bytes;
  wrote : Appends (g.W.Write.contents l.initial.leaving.writer.now) (g.W.Write.contents l.leaving.writer.now) (take l.sent l.bytes);
  no_wait : l.leaving.waits ≡ l.initial.leaving.waits;
  sound : l.leaving.has_failed ≡ l.initial.leaving.has_failed;
  same_stream : l.leaving.writer.ghost_name ≡ l.initial.leaving.writer.ghost_name;
}

abbrev pub decreases-sends : goal.decreases-sends
decreases-sends g l = length l.bytes - l.sent

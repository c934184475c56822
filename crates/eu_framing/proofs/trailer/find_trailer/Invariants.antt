use Rattle.std.proofs.Common.{◌≡◌, ◌≤◌, ◌+◌, ◌-◌, true, drop, length, vec_len}
use Rattle.eu_framing.specs.Chunks.{trailer_room}
use Rattle.eu_framing.specs.Message.{max_fields}
use Rattle.eu_framing.specs.Reading.{Grows}
use Rattle.eu_framing.specs.Scanning.{IsAt, TrailerEndsAfter}
use Rattle.eu_framing.proofs.trailer.find_trailer.Given as goal

abbrev pub invariant-reads : goal.invariant-reads
invariant-reads g l = record {
  within : l.start ≤ vec_len l.buffer;
  room : length l.spans ≡ max_fields;
  grows : Grows (g.R.Source.remaining l.initial.reader) (g.R.Source.failed l.initial.reader) l.initial.buffer.items (g.R.Source.remaining l.reader) (g.R.Source.failed l.reader) l.buffer.items;
  at : IsAt true (drop l.start l.buffer.items) l.scan;
  behind : TrailerEndsAfter l.scan.seen (drop l.start l.buffer.items);
  same_stream : g.R.Source.stream l.reader ≡ g.R.Source.stream l.initial.reader;
}

abbrev pub decreases-reads : goal.decreases-reads
decreases-reads g l = (l.start + trailer_room l.room) - vec_len l.buffer

use Rattle.std.proofs.Common.{◌≡◌, ◌≤◌, ◌+◌, ◌-◌, drop, vec_len}
use Rattle.eu_framing.specs.Reading.{Grows}
use Rattle.eu_framing.specs.Scanning.{LineEndsAfter}
use Rattle.eu_framing.proofs.chunks.find_line.Given as goal

abbrev pub invariant-reads : goal.invariant-reads
invariant-reads g l = record {
  within : l.start ≤ vec_len l.buffer;
  seen : l.seen ≤ vec_len l.buffer;
  grows : Grows (g.R.Source.remaining l.initial.reader) (g.R.Source.failed l.initial.reader) l.initial.buffer.items (g.R.Source.remaining l.reader) (g.R.Source.failed l.reader) l.buffer.items;
  from : l.start ≤ l.seen;
  behind : LineEndsAfter (l.seen - l.start) (drop l.start l.buffer.items);
  same_stream : g.R.Source.stream l.reader ≡ g.R.Source.stream l.initial.reader;
}

abbrev pub decreases-reads : goal.decreases-reads
decreases-reads g l = (l.start + l.room) - vec_len l.buffer

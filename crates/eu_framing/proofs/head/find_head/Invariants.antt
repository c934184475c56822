use Rattle.std.proofs.Common.{◌≡◌, ◌-◌, false, length, vec_len}
use Rattle.eu_framing.specs.Message.{max_head, max_fields}
use Rattle.eu_framing.specs.Reading.{Grows}
use Rattle.eu_framing.specs.Scanning.{IsAt, HeadEndsAfter}
use Rattle.eu_framing.proofs.head.find_head.Given as goal

abbrev pub invariant-reads : goal.invariant-reads
invariant-reads g l = record {
  room : length l.spans ≡ max_fields;
  grows : Grows (g.R.Source.remaining l.initial.reader) (g.R.Source.failed l.initial.reader) l.initial.buffer.items (g.R.Source.remaining l.reader) (g.R.Source.failed l.reader) l.buffer.items;
  at : IsAt false l.buffer.items l.scan;
  behind : HeadEndsAfter l.scan.seen l.buffer.items;
  same_stream : g.R.Source.stream l.reader ≡ g.R.Source.stream l.initial.reader;
}

abbrev pub decreases-reads : goal.decreases-reads
decreases-reads g l = max_head - vec_len l.buffer

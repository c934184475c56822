use Rattle.std.proofs.Common.{◌≡◌, ◌+◌, ◌-◌}
use Rattle.eu_framing.specs.Chunks.{max_raw}
use Rattle.eu_framing.specs.Reading.{Grows}
use Rattle.eu_framing.specs.Walking.{Stands}
use Rattle.eu_framing.proofs.chunks.take_chunks.Given as goal

abbrev pub invariant-chunks : goal.invariant-chunks
invariant-chunks g l = record {
  stands : Stands l.start l.buffer.items l.walk;
  grows : Grows (g.R.Source.remaining l.initial.reader) (g.R.Source.failed l.initial.reader) l.initial.buffer.items (g.R.Source.remaining l.reader) (g.R.Source.failed l.reader) l.buffer.items;
  same_stream : g.R.Source.stream l.reader ≡ g.R.Source.stream l.initial.reader;
}

abbrev pub decreases-chunks : goal.decreases-chunks
decreases-chunks g l = (l.start + max_raw) - l.walk.at

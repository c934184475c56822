-- What is told of a turn of the evictor
use Rattle.std.specs.Prelude.{ℕ, Result, Ok, Err, length}
use Rattle.eu_base.specs.declared.faults.Fault.{Fault}
use Rattle.eu_book.specs.declared.book.Receipt.{Receipt}
use Rattle.eu_gate.specs.declared.gate.News.{News}
use Rattle.eu_model.specs.declared.commands.Reply.{Reply}
use Rattle.eu_model.specs.declared.commands.Reply.TheVariants.{Registered, Done, NotFound, Stale, Conflict, Last, Expected, Evicted, Batch, Settled}
use Rattle.eu_model.specs.declared.views.Gauges.{Gauges}

-- how many leases a reply says to be evicted
abbrev pub evicted_in : Reply → ℕ
evicted_in (Evicted victims) = length victims
evicted_in (Registered fresh) = 0
evicted_in Done = 0
evicted_in NotFound = 0
evicted_in Stale = 0
evicted_in (Conflict held) = 0
evicted_in (Last renewals) = 0
evicted_in (Expected clients) = 0
evicted_in (Batch tasks) = 0
evicted_in Settled = 0

abbrev pub evicted_by : Result Receipt Fault → ℕ
evicted_by (Ok receipt) = evicted_in receipt.reply
evicted_by (Err fault) = 0

-- what was seen before an ask, and how many leases it evicted
abbrev pub news_of : Gauges → Result Receipt Fault → News
news_of seen asked = record {
  permitted = seen.counts.permitted;
  renewals = seen.counts.last;
  threshold = seen.counts.threshold;
  due = seen.due;
  evicted = evicted_by asked;
}
